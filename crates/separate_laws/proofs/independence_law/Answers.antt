use Rattle.separate_laws.proofs.DigitLaws.{digit_law}
use Rattle.separate_laws.proofs.Independence.{independence}
use Rattle.separate_laws.proofs.independence_law.Goals as goal

pub returns : goal.returns
returns c = independence digit_law
