use Rattle.entry_rates.proofs.Greatest.{entry_laws}
use Rattle.entry_rates.proofs.entry_law.Goals as goal

pub returns : goal.returns
returns c = entry_laws
