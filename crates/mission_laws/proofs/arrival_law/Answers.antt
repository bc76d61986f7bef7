use Rattle.mission_laws.proofs.Arrived.{arrival_laws}
use Rattle.mission_laws.proofs.arrival_law.Goals as goal

pub returns : goal.returns
returns c = arrival_laws
