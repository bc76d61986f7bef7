-- Subsystems without their names.
use Rattle.std.specs.Prelude.{◌≡◌, Some}
use Rattle.sil_model.specs.LoopValue.{IsVoteInRange, IsFiguresInRange, IsPlanInRange}
use Rattle.sil_model.specs.declared.parts.Subsystem.{Subsystem}
use Rattle.sil_model.specs.declared.parts.TestPlan.{TestPlan}
use Rattle.sample_loops.specs.declared.Sample.{Sample}

abbrev pub sample_of : Subsystem → Sample
sample_of u = record { vote = u.vote; figures = u.figures; in_repair = u.in_repair; test = u.test }

-- every value is in its range
pub record IsSampleInRange (s : Sample) : Type 0 where
  pub vote : IsVoteInRange s.vote
  pub figures : IsFiguresInRange s.figures
  pub test : (p : TestPlan) → s.test ≡ Some p → IsPlanInRange p
