-- The rows of the program's table, as contracts see them.
use Rattle.std.specs.Prelude.{map}
use Rattle.verb_table.specs.Table.{Choice, Row, nothing, one_of}
use Rattle.verb_table.specs.Table.{Values as ValueKind}
use Rattle.verb_table.specs.declared.rows.ChoiceRow.{ChoiceRow}
use Rattle.verb_table.specs.declared.rows.Values.{Values}
use Rattle.verb_table.specs.declared.rows.Values.TheVariants.{Nothing, OneOf}
use Rattle.verb_table.specs.declared.rows.VerbRow.{VerbRow}

abbrev pub seen_values : Values → ValueKind
seen_values Nothing = nothing
seen_values (OneOf values) = one_of (map (λ value. value.now) values.now)

abbrev pub seen_choice : ChoiceRow → Choice
seen_choice c = record { name = c.name.now; values = seen_values c.values; is_required = c.is_required; meaning = c.meaning }

abbrev pub seen_row : VerbRow → Row
seen_row row = record { verb = row.verb; word = row.word.now; positional = row.positional; choices = map seen_choice row.choices.now }
