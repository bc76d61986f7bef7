use Rattle.std.proofs.Common.{◌≡◌, map, take}
use Rattle.subsystem_power.specs.Powers.{alone_of}
use Rattle.phase_separate.specs.Subsystems.{loops_of}
use Rattle.phase_separate.proofs.subsystems.subsystems_of.Given as goal

abbrev pub invariant-loop-i : goal.invariant-loop-i
invariant-loop-i l = loops_of l.subsystems.items ≡ map (alone_of l.l) (take l.i l.l.subsystems)
