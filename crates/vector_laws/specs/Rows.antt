-- The rows of a matrix as vectors: what they sum to, and what they weigh by values.
use Rattle.std.specs.Prelude.{ℕ, ◌+◌, ◌^◌, ◌<◌, ◌≤◌, List, map, sum}
use Rattle.std.specs.List.{range_with_len}
use Rattle.sil_fraction.specs.Fraction.{◌*ℚ◌, ◌≤ℚ◌, whole}
use Rattle.sil_model.specs.Series.{Values}
use Rattle.vector_laws.specs.Vectors.{weigh}
use Rattle.vector_laws.specs.Matrix.{Matrix, entry_of}

-- row i, from its first column to its last
unfoldable pub row_of : Matrix → ℕ → List ℕ
row_of m i = map (entry_of m i) (range_with_len 0 m.size)

-- by all values, no row weighs more than 2^48 times what the operator T makes of them
pub record IsBelowOperator (m : Matrix) (T : Values ℕ → Values ℕ) : Type 0 where
  pub row : (i : ℕ) → i < m.size → (f : Values ℕ) → weigh (row_of m i) f ≤ℚ whole (2 ^ 48) *ℚ T f i

pub record EachRowAtMost (m : Matrix) (most : ℕ) : Type 0 where
  pub row : (i : ℕ) → i < m.size → sum (row_of m i) ≤ most

-- no row lacks more than so much of the whole
pub record EachRowNear (m : Matrix) (all lack : ℕ) : Type 0 where
  pub row : (i : ℕ) → i < m.size → all ≤ sum (row_of m i) + lack
