-- Vectors of whole numbers in units of 2^-48: what they weigh by values, and what they lack.
use Rattle.std.specs.Prelude.{ℕ, ◌-◌, ◌^◌, ◌≤◌, List, length, sum, slice_index}
use Rattle.sil_fraction.specs.Fraction.{Fraction, ◌*ℚ◌, whole}
use Rattle.sil_fraction.specs.Sum.{total_below}
use Rattle.sil_model.specs.Series.{Values}

-- the sum of v_i * f_i
unfoldable pub weigh : List ℕ → Values ℕ → Fraction
weigh v f = total_below (length v) (λ i. whole (slice_index v i) *ℚ f i)

-- the numbers are chances that come to at most 1
abbrev pub IsMass : List ℕ → Type 0
IsMass v = sum v ≤ 2 ^ 48

-- what they lack of 1
abbrev pub lack : List ℕ → ℕ
lack v = 2 ^ 48 - sum v
