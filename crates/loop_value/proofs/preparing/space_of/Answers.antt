use Rattle.std.proofs.Common.{◌∙◌, ap, arith, Err}
use Rattle.sil_model.specs.declared.answers.LimitFault.{LimitFault}
use Rattle.lumping.specs.declared.space.SpaceFault.TheVariants.{Limit}
use Rattle.loop_value.proofs.preparing.space_of.Goals as goal

pub unreachable-requires : goal.unreachable-requires
unreachable-requires c =
    let is = c.in-Err-Limit.is ∙ ap Err c.in-Err-Limit.field-0-is in
    let many = c.new.ensures.refused.0 (is ∙ ap (λ (f : LimitFault). Err (Limit f)) (c.new.ensures.no_other_limit _ is)) in
    omega (arith, many, c.requires)
