use Rattle.std.proofs.Common.{◌∙◌, ap, sym}
use Rattle.verb_table.specs.Rows.{seen_values}
use Rattle.verb_table.specs.Table.{accepts}
use Rattle.verb_table.proofs.Finding.{any_seen}
use Rattle.verb_table.proofs.rows.Values.accepts.Goals as goal

pub returns-in-OneOf : goal.returns-in-OneOf
returns-in-OneOf c =
    c.contains.ensures.value ∙ any_seen c.args.value.now c.in-OneOf.values.now ∙ ap (λ v. accepts (seen_values v) c.args.value.now) (sym c.in-OneOf.is)
