use Rattle.test_matrix.proofs.HourTests.{after_phase}
use Rattle.test_matrix.proofs.hour_law.Goals as goal

pub returns : goal.returns
returns c = after_phase
