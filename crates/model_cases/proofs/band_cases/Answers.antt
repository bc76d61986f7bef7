use Rattle.model_cases.proofs.Edges.{edges}
use Rattle.model_cases.proofs.band_cases.Goals as goal

pub returns : goal.returns
returns c = edges
