-- What it means that the weights of a beat, in units of 2^-48, lie below the series.
use Rattle.std.specs.Prelude.{ℕ, ◌-◌, ◌^◌, ◌≤◌}
use Rattle.sil_fraction.specs.Fraction.{◌*ℚ◌, ◌≤ℚ◌, whole}
use Rattle.sil_model.specs.Series.{factorial, series_of, tail_of}

-- the number w in units of 2^-48 is at most 1/k! over the series of every length
pub record IsBelowTerm (w k : ℕ) : Type 0 where
  pub below : (N : ℕ) → whole w *ℚ series_of N *ℚ whole (factorial k) ≤ℚ whole (2 ^ 48)

-- the number y in units of 2^-48 is at most the tail above k over the sum of the tails, at every length from the order on
pub record IsBelowTail (order y k : ℕ) : Type 0 where
  pub below : (N : ℕ) → order ≤ N → whole y *ℚ series_of (N - 1) ≤ℚ whole (2 ^ 48) *ℚ tail_of N k
