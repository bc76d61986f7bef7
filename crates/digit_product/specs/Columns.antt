-- A column of a matrix without its zeros.
use Rattle.std.specs.Prelude.{◌≡◌, ℕ, ◌+◌, ◌*◌, ◌≤◌, List, length, slice_index, sum_by, All}
use Rattle.sil_fraction.specs.Sum.{sum_below}
use Rattle.vector_laws.specs.Matrix.{Matrix, entry_of}
use Rattle.digit_product.specs.declared.column.Entry.{Entry}

-- the sum of the weights, each times the number at its offset
abbrev pub weighed : (ℕ → ℕ) → List Entry → ℕ
weighed x es = sum_by (λ (e : Entry). x e.offset * e.weight) es

-- the same of the numbers of a list from a place on
abbrev pub weighed_from : List ℕ → ℕ → List Entry → ℕ
weighed_from v first es = weighed (λ i. slice_index v (first + i)) es

-- these are the entries of column j that are not 0 in the first rows: whatever the numbers are, both make one sum of products
pub record AreEntries (m : Matrix) (stride j rows : ℕ) (es : List Entry) : Type 0 where
  pub few : length es ≤ rows
  pub within : All (λ (e : Entry). e.offset + stride ≤ rows * stride) es
  pub sums : (x : ℕ → ℕ) → weighed x es ≡ sum_below rows (λ a. x (a * stride) * entry_of m a j)
