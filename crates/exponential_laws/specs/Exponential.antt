-- The exponential series of a step, cut off, and steps that commute.
use Rattle.std.specs.Prelude.{◌≡◌, ℕ, suc}
use Rattle.sil_fraction.specs.Fraction.{◌+ℚ◌, ◌*ℚ◌, ratio}
use Rattle.sil_fraction.specs.Sum.{total_below}
use Rattle.sil_model.specs.Series.{Values, factorial, times}

-- the sum of the values after k steps, divided by k!, for k from 0 to n
unfoldable pub exponential_of : (Values ℕ → Values ℕ) → ℕ → Values ℕ → Values ℕ
exponential_of T n f i = total_below (suc n) (λ k. ratio 1 (factorial k) *ℚ times T k f i)

-- what two steps give together
abbrev pub both : {I : Type 0} → (Values I → Values I) → (Values I → Values I) → Values I → Values I
both X Y f i = X f i +ℚ Y f i

-- it does not matter which of two steps comes first
pub record Commute (X Y : Values ℕ → Values ℕ) : Type 0 where
  pub either : (f : Values ℕ) → X (Y f) ≡ Y (X f)
