use Rattle.model_cases.proofs.Budgets.{budgets}
use Rattle.model_cases.proofs.budget_cases.Goals as goal

pub returns : goal.returns
returns c = budgets
