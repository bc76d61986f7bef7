use Rattle.separate_laws.proofs.MatrixLaws.{matrix_law}
use Rattle.separate_laws.proofs.matrix_law.Goals as goal

pub returns : goal.returns
returns c = matrix_law
