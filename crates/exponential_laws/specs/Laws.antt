-- The exponential series of a sum of two steps that commute, against those of the steps one after the other.
use Rattle.std.specs.Prelude.{ℕ, ◌+◌}
use Rattle.sil_fraction.specs.Fraction.{◌≤ℚ◌}
use Rattle.sil_model.specs.Series.{Values}
use Rattle.exponential_laws.specs.Exponential.{exponential_of, both}

-- cut off at j and at l, the two together have no term that the series of the sum has not up to j + l; and cut off at n
-- both, they have all that it has up to n
pub record ExponentialLaw (X Y : Values ℕ → Values ℕ) : Type 0 where
  pub below : (j l : ℕ) (f : Values ℕ) (i : ℕ) → exponential_of X j (exponential_of Y l f) i ≤ℚ exponential_of (both X Y) (j + l) f i
  pub above : (n : ℕ) (f : Values ℕ) (i : ℕ) → exponential_of (both X Y) n f i ≤ℚ exponential_of X n (exponential_of Y n f) i
