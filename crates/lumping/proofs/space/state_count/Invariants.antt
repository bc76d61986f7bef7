use Rattle.std.proofs.Common.{◌≡◌, ◌*◌, drop}
use Rattle.sil_model.specs.LoopValue.{groups_of}
use Rattle.sil_model.specs.Sizes.{states_over}
use Rattle.lumping.proofs.space.state_count.Given as goal

abbrev pub invariant-loop-g : goal.invariant-loop-g
invariant-loop-g l = l.count * states_over (drop l.g (groups_of l.l.subsystems)) ≡ states_over (groups_of l.l.subsystems)
