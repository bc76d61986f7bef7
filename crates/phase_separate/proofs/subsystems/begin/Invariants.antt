use Rattle.phase_separate.proofs.Begun.{AreBegun}
use Rattle.phase_separate.proofs.subsystems.begin.Given as goal

abbrev pub invariant-loop-i : goal.invariant-loop-i
invariant-loop-i g l = AreBegun l.hours l.beats l.fn.subsystems l.i l.subsystems l.fn.steps l.steps
