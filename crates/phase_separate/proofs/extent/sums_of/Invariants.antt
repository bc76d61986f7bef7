use Rattle.std.proofs.Common.{take}
use Rattle.phase_separate.specs.Extents.{AreSumsOf}
use Rattle.phase_separate.specs.Subsystems.{HaveFewStates}
use Rattle.phase_separate.proofs.extent.sums_of.Given as goal

abbrev pub invariant-loop-i : goal.invariant-loop-i
invariant-loop-i l = record {
  sums : AreSumsOf (take l.i l.l.subsystems) l.sums;
  few : HaveFewStates (take l.i l.l.subsystems);
}
