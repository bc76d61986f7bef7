use Rattle.model_laws.proofs.Operators.{step-linear}
use Rattle.model_laws.proofs.Beats.{beat-linear}
use Rattle.model_laws.proofs.linear_beats.Goals as goal

pub returns : goal.returns
returns c = record { step = step-linear; beat = beat-linear }
