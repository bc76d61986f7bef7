use Rattle.separate_laws.proofs.DigitLaws.{digit_law}
use Rattle.separate_laws.proofs.digit_law.Goals as goal

pub returns : goal.returns
returns c = digit_law
