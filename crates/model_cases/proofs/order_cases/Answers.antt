use Rattle.model_cases.proofs.Compared.{compared}
use Rattle.model_cases.proofs.order_cases.Goals as goal

pub returns : goal.returns
returns c = compared
