use Rattle.sil_text.proofs.FixedBy.{texts_fix_numbers}
use Rattle.sil_text.proofs.figure.texts_fix_numbers.Goals as goal

pub returns : goal.returns
returns c = texts_fix_numbers
