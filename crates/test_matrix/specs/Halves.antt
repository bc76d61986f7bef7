-- A vector in two parts: what is where the loop is up, and what is where it is down.
use Rattle.std.specs.Prelude.{◌≡◌, ℕ, ◌+◌, ◌<◌, Bool, false, not, List, length, slice_index, slice_index_or, if◌then◌else◌}
use Rattle.sil_fraction.specs.Sum.{sum_below}

-- a number, where it counts
abbrev pub number_if : Bool → ℕ → ℕ
number_if counts n = if counts then n else 0

-- whether the loop is up at a number
abbrev pub up_at : List Bool → ℕ → Bool
up_at ups i = slice_index_or ups i false

-- `kept` is the part of v where the loop is up, and `moved` the other one
pub record IsSplit (ups : List Bool) (v kept moved : List ℕ) : Type 0 where
  pub room_kept : length kept ≡ length v
  pub room_moved : length moved ≡ length v
  pub at_up : (i : ℕ) → i < length v → slice_index kept i ≡ number_if (up_at ups i) (slice_index v i)
  pub at_down : (i : ℕ) → i < length v → slice_index moved i ≡ number_if (not (up_at ups i)) (slice_index v i)

-- w is both parts together
pub record IsJoined (first second w : List ℕ) : Type 0 where
  pub room_first : length first ≡ length w
  pub room_second : length second ≡ length w
  pub sums : (j : ℕ) → j < length w → slice_index w j ≡ slice_index first j + slice_index second j

-- what of v is where the loop is up, and what where it is down
abbrev pub mass_up : List Bool → List ℕ → ℕ
mass_up ups v = sum_below (length v) (λ j. number_if (up_at ups j) (slice_index v j))

abbrev pub mass_down : List Bool → List ℕ → ℕ
mass_down ups v = sum_below (length v) (λ j. number_if (not (up_at ups j)) (slice_index v j))
