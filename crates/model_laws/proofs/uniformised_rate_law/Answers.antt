use Rattle.model_laws.proofs.Rates.{short}
use Rattle.model_laws.proofs.uniformised_rate_law.Goals as goal

pub returns : goal.returns
returns c = record { short = short }
