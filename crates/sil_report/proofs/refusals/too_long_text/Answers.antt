use Rattle.std.proofs.Common.{refl}
use Rattle.std.specs.Fmt.{digits}
use Rattle.sil_report.proofs.refusals.too_long_text.Goals as goal

pub returns : goal.returns
unfolding digits
returns c = refl
