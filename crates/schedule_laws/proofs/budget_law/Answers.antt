use Rattle.schedule_laws.proofs.Small.{budget_small, width_small}
use Rattle.schedule_laws.proofs.budget_law.Goals as goal

pub returns : goal.returns
returns c = record { budget = budget_small; pfd_width = width_small }
