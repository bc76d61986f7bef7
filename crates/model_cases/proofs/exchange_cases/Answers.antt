use Rattle.model_cases.proofs.Traded.{traded}
use Rattle.model_cases.proofs.exchange_cases.Goals as goal

pub returns : goal.returns
returns c = traded
