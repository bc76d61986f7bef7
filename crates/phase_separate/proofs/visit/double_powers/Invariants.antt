use Rattle.std.proofs.Common.{◌≡◌, ◌+◌}
use Rattle.phase_separate.specs.Subsystems.{powers_at}
use Rattle.phase_separate.proofs.Changes.{AreChanged}
use Rattle.phase_separate.proofs.visit.double_powers.Given as goal

abbrev pub invariant-loop-subsystem : goal.invariant-loop-subsystem
invariant-loop-subsystem g l = (all : l.fn.subsystems ≡ powers_at l.chain l.passed)
    → AreChanged (λ n. n + n) l.chain l.passed l.fn.subsystems all l.subsystem-index l.subsystems l.fn.steps l.steps
