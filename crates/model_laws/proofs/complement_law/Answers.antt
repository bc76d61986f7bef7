use Rattle.model_laws.proofs.Totals.{down-and-up}
use Rattle.model_laws.proofs.complement_law.Goals as goal

pub returns : goal.returns
returns c = record { hours = down-and-up }
