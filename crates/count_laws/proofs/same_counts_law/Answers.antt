use Rattle.count_laws.proofs.SameCounts.{same_counts_laws}
use Rattle.count_laws.proofs.same_counts_law.Goals as goal

pub returns : goal.returns
returns c = same_counts_laws
