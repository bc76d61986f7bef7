-- The laws of steps of one digit.
use Rattle.std.specs.Prelude.{◌≡◌, ℕ, ◌+◌, ◌*◌, ◌^◌, ◌<◌, ◌≤◌, List, length, sum}
use Rattle.sil_fraction.specs.Fraction.{◌≤ℚ◌}
use Rattle.sil_model.specs.Series.{Values, times, beat_of}
use Rattle.model_laws.specs.Polynomial.{IsLinear}
use Rattle.lumped_laws.specs.LinearLists.{AsksBelow, KeepsConstants}
use Rattle.vector_laws.specs.Vectors.{weigh}
use Rattle.exponential_laws.specs.Exponential.{Commute}
use Rattle.vector_laws.specs.Matrix.{Matrix}
use Rattle.vector_laws.specs.Rows.{IsBelowOperator, EachRowAtMost, EachRowNear}
use Rattle.separate_laws.specs.Digits.{along}

-- below n the values below n alone are asked
pub record StaysBelow (n : ℕ) (T : Values ℕ → Values ℕ) : Type 0 where
  pub same : (f g : Values ℕ) → ((i : ℕ) → i < n → f i ≡ g i) → (i : ℕ) → i < n → T f i ≡ T g i

-- a linear step that asks for values below the base, along a digit
pub record DigitLaw (stride base : ℕ) (T : Values ℕ → Values ℕ) : Type 0 where
  pub linear : IsLinear (along stride base T)
  pub keeps : KeepsConstants T → KeepsConstants (along stride base T)
  pub stays : (more : ℕ) → StaysBelow (stride * base * more) (along stride base T)
  -- its beats are those of the step, along the digit
  pub beats : (N m : ℕ) (f : Values ℕ) → times (beat_of (along stride base T) N) m f ≡ along stride base (times (beat_of T N) m) f
  -- and it commutes with each such step of a digit further up
  pub commute : (between other : ℕ) (U : Values ℕ → Values ℕ) → 0 < between → 0 < other → IsLinear U → AsksBelow other U
      → Commute (along stride base T) (along (stride * base * between) other U)

-- a vector that a matrix changes along a digit: what it weighs, and what it lacks where it came to at most t times the whole
pub record MatrixLaw (stride : ℕ) (m : Matrix) (v out : List ℕ) : Type 0 where
  pub weighed : (T : Values ℕ → Values ℕ) → IsBelowOperator m T → (f : Values ℕ) → weigh out f ≤ℚ weigh v (along stride m.size T f)
  pub kept : EachRowAtMost m (2 ^ 48) → sum out ≤ sum v
  pub least : (t lack : ℕ) → EachRowNear m (2 ^ 48) lack → sum v ≤ t * 2 ^ 48 → sum v ≤ sum out + t * lack + length v
