-- The law of a matrix along a digit.
use Rattle.std.proofs.Common.{◌≡◌, ℕ, ◌*◌, ◌<◌, List, length}
use Rattle.vector_laws.specs.Matrix.{Matrix}
use Rattle.separate_laws.specs.Digits.{IsAlongDown}
use Rattle.separate_laws.specs.DigitLaws.{MatrixLaw}
use Rattle.separate_laws.proofs.Vectors.{along-weighed, along-kept, along-least}

pub matrix_law : (stride more : ℕ) (m : Matrix) (v out : List ℕ) → 0 < stride → 0 < m.size → length v ≡ stride * m.size * more
    → IsAlongDown stride m v out → MatrixLaw stride m v out
matrix_law stride more m v out some exist long down = record {
  weighed = along-weighed stride more m v out some exist long down;
  kept = along-kept stride more m v out some exist long down;
  least = along-least stride more m v out some exist long down;
}
