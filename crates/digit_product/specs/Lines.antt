-- The numbers of a vector that differ in one digit alone make a line.
use Rattle.std.specs.Prelude.{◌≡◌, ℕ, ◌+◌, ◌*◌, ◌/◌, ◌^◌, ◌<◌, ◌≤◌, ◌≢◌, List, length, slice_index, All}
use Rattle.sil_fraction.specs.Sum.{sum_below}
use Rattle.vector_laws.specs.Matrix.{Matrix, entry_of}
use Rattle.separate_laws.specs.Digits.{digit_of}

-- the place of the number with this digit, with `low` below the digit and `high` above it
abbrev pub place_of : ℕ → ℕ → ℕ → ℕ → ℕ → ℕ
place_of stride size low digit high = low + stride * digit + stride * size * high

-- what column j of a matrix, in units of 2^-48, brings of a line, rounded down
abbrev pub brought : ℕ → Matrix → List ℕ → ℕ → ℕ → ℕ → ℕ
brought stride m v low high j = sum_below m.size (λ a. slice_index v (place_of stride m.size low a high) * entry_of m a j) / 2 ^ 48

-- these lines are listed, each by the place of its number with digit 0: of the first lines those that have a number other than 0
pub record AreLines (stride size count : ℕ) (v starts : List ℕ) : Type 0 where
  pub few : length starts ≤ count
  pub first : All (λ f. digit_of stride size f ≡ 0) starts
  pub within : All (λ f. f + size * stride < length v + stride) starts
  pub zeros : (low high : ℕ) → low < stride → high * stride + low < count → All (λ f. f ≢ place_of stride size low 0 high) starts
      → (digit : ℕ) → digit < size → slice_index v (place_of stride size low digit high) ≡ 0
