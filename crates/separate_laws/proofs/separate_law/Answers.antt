use Rattle.exponential_laws.proofs.Terms.{exponential_law}
use Rattle.separate_laws.proofs.Separates.{separate_law}
use Rattle.separate_laws.proofs.separate_law.Goals as goal

pub returns : goal.returns
returns c n T Ps t keeps stays separate = separate_law exponential_law n T t keeps stays Ps separate
