use Rattle.exponential_laws.proofs.Terms.{exponential_law}
use Rattle.exponential_laws.proofs.exponential_law.Goals as goal

pub returns : goal.returns
returns c X Y x y commute = exponential_law X Y x y commute
