use Rattle.limit_laws.proofs.Schedules.{pay_near}
use Rattle.limit_laws.proofs.pays_converge.Goals as goal

pub returns : goal.returns
returns c = record { near = pay_near }
