-- The usage text, as the table of verbs gives it.
use Rattle.std.specs.Prelude.{codes, List, [], ◌∷◌, ◌++◌, if◌then◌else◌}
use Rattle.verb_table.specs.Table.{Choice, Row, Text, Values, nothing, one_of}
use Rattle.verb_table.specs.declared.verb.Positional.{Positional}
use Rattle.verb_table.specs.declared.verb.Positional.TheVariants.{Name, Number}

-- the alternatives of a value
abbrev pub alternatives : List Text → Text
alternatives [] = []
alternatives (value ∷ []) = value
alternatives (value ∷ next ∷ values) = value ++ codes "|" ++ alternatives (next ∷ values)

abbrev pub values_text : Values → Text
values_text nothing = []
values_text (one_of values) = codes " " ++ alternatives values

abbrev pub spelled_choice : Choice → Text
spelled_choice c = codes "--" ++ c.name ++ values_text c.values

-- what need not stand is in brackets
abbrev pub choice_text : Choice → Text
choice_text c = if c.is_required then spelled_choice c else codes "[" ++ spelled_choice c ++ codes "]"

abbrev pub choices_text : List Choice → Text
choices_text [] = []
choices_text (c ∷ choices) = codes " " ++ choice_text c ++ choices_text choices

abbrev pub positional_text : Positional → Text
positional_text Name = codes "NAME"
positional_text Number = codes "NUMBER"

abbrev pub row_text : Row → Text
row_text row = codes "sil " ++ row.word ++ codes " " ++ positional_text row.positional ++ choices_text row.choices ++ codes "\n"

abbrev pub further_rows : List Row → Text
further_rows [] = []
further_rows (row ∷ rows) = codes "       " ++ row_text row ++ further_rows rows

-- a line for each verb, the first of which says what they are
unfoldable pub usage_text : List Row → Text
usage_text [] = []
usage_text (row ∷ rows) = codes "usage: " ++ row_text row ++ further_rows rows
