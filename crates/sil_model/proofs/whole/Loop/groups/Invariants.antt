use Rattle.std.proofs.Common.{◌≡◌, ◌+◌, length, drop}
use Rattle.sil_model.specs.LoopValue.{groups_of, groups_from}
use Rattle.sil_model.proofs.whole.Loop.groups.Given as goal

abbrev pub invariant-loop-u : goal.invariant-loop-u
invariant-loop-u l = l.count + length (groups_from l.u-index (drop l.u-index l.u-items)) ≡ length (groups_of l.u-items)
