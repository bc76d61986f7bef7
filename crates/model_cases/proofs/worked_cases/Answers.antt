use Rattle.model_cases.proofs.Worked.{worked}
use Rattle.model_cases.proofs.worked_cases.Goals as goal

pub returns : goal.returns
returns c = worked
