use Rattle.std.proofs.Common.{arith, ap, ◌∙◌}
use Rattle.sil_model.specs.LoopValue.{groups_of}
use Rattle.sil_model.specs.Sizes.{states_of, states_over}
use Rattle.count_laws.proofs.Numbering.{states-positive}
use Rattle.lumping.proofs.space.Space.size.Goals as goal

pub returns-clause-size : goal.returns-clause-size
unfolding states_of
returns-clause-size c =
    c.self.invariant.count ∙ ap states_over c.self.invariant.groups ∙ ap (λ l. states_over (groups_of l.subsystems)) c.self.view_is

pub returns-clause-some : goal.returns-clause-some
returns-clause-some c = omega (arith, c.self.invariant.count, states-positive c.self.inside.groups.items)
