use Rattle.model_cases.proofs.Phases.{phases}
use Rattle.model_cases.proofs.phase_cases.Goals as goal

pub returns : goal.returns
returns c = phases
