use Rattle.std.proofs.Common.{◌≡◌, ◌<◌, length, drop, slice_index_or}
use Rattle.sil_model.specs.LoopValue.{groups_of, groups_from}
use Rattle.sil_model.specs.declared.parts.Group.{Group}
use Rattle.sil_model.proofs.whole.Loop.group.Given as goal

abbrev pub invariant-loop-i : goal.invariant-loop-i
invariant-loop-i l = record {
  within : l.left < length (groups_from l.i (drop l.i l.u-items));
  same : (d : Group) → slice_index_or (groups_from l.i (drop l.i l.u-items)) l.left d ≡ slice_index_or (groups_of l.u-items) l.g d;
}
