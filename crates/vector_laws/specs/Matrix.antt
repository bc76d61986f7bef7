-- A square matrix of whole numbers, as contracts see it.
use Rattle.std.specs.Prelude.{◌≡◌, ℕ, ◌+◌, ◌*◌, ◌/◌, ◌^◌, ◌<◌, ◌≤◌, List, length, slice_index}
use Rattle.sil_fraction.specs.Sum.{sum_below}

-- its size, and its entries row by row
pub record Matrix : Type 0 where
  pub size : ℕ
  pub entries : List ℕ

-- the entry in row i and column j
abbrev pub entry_of : Matrix → ℕ → ℕ → ℕ
entry_of m i j = slice_index m.entries (i * m.size + j)

-- the most rows that a matrix has
abbrev pub most_rows : ℕ
most_rows = 64

-- a size from 1 to the most rows, and as many entries as that size has places
pub record IsSquare (size entries : ℕ) : Type 0 where
  pub some : 1 ≤ size
  pub few : size ≤ most_rows
  pub filled : entries ≡ size * size

pub record EachEntryAtMost (m : Matrix) (most : ℕ) : Type 0 where
  pub entry : (i j : ℕ) → i < m.size → j < m.size → entry_of m i j ≤ most

-- the sum of the products of row i of a and column j of b
abbrev pub product_of : Matrix → Matrix → ℕ → ℕ → ℕ
product_of a b i j = sum_below a.size (λ k. entry_of a i k * entry_of b k j)

-- each entry of m is that sum, of factors in units of 2^-48, rounded down
pub record IsProductDown (a b m : Matrix) : Type 0 where
  pub floor : (i j : ℕ) → i < a.size → j < a.size → entry_of m i j ≡ product_of a b i j / 2 ^ 48

-- each number of `out` is the sum of the products of a row, in units of 2^-48, and a column of m, rounded down
pub record IsRowProductDown (row : List ℕ) (m : Matrix) (out : List ℕ) : Type 0 where
  pub size : length out ≡ m.size
  pub floor : (j : ℕ) → j < m.size → slice_index out j ≡ sum_below m.size (λ k. slice_index row k * entry_of m k j) / 2 ^ 48
