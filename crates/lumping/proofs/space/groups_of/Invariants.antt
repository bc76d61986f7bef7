use Rattle.std.proofs.Common.{◌≡◌, take}
use Rattle.sil_model.specs.LoopValue.{groups_of as the_groups_of}
use Rattle.lumping.proofs.space.groups_of.Given as goal

abbrev pub invariant-loop-g : goal.invariant-loop-g
invariant-loop-g l = l.groups.items ≡ take l.g (the_groups_of l.l.subsystems)
