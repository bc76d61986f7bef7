-- What converges as the order of the series grows: the series, beats, schedules and figures.
use Rattle.std.specs.Prelude.{◌≡◌, ℕ, suc, ◌<◌, ◌≤◌, List}
use Rattle.sil_fraction.specs.Fraction.{Fraction, ◌*ℚ◌, ◌≤ℚ◌, ratio}
use Rattle.sil_fraction.specs.Sum.{total_below}
use Rattle.sil_model.specs.State.{FullState}
use Rattle.sil_model.specs.Series.{Values, factorial, series_of, times, beat_of, mean_of}
use Rattle.sil_model.specs.Pay.{Item, Mode, pay_of}
use Rattle.sil_model.specs.LoopValue.{LoopValue, IsValid}
use Rattle.sil_model.specs.Figures.{Contains18}
use Rattle.sil_model.specs.declared.parts.Subsystem.{Subsystem}
use Rattle.model_laws.specs.Polynomial.{IsLinear}
use Rattle.model_laws.specs.Hours.{AreShort}
use Rattle.limit_laws.specs.Near.{IsNear}
use Rattle.limit_laws.specs.Real.{Real, IsNearReal, IsSame, Approaches, real_of}
use Rattle.limit_laws.specs.Bounds.{remainder_of, pay_error}
use Rattle.limit_laws.specs.Exact.{Figure, figure_of, error_of, IsExact, ContainsReal18, ContainsExact18}

-- the truncated series of two orders, and their limit
pub record SeriesConverges : Type 0 where
  pub near : (n m : ℕ) → n ≤ m → IsNear (remainder_of n) (series_of n) (series_of m)
  pub limit : (e : Real) × Approaches series_of e

-- a Markov operator: linear, and keeping order and constants, as a short step of a loop does
pub record IsMarkov (T : Values FullState → Values FullState) : Type 0 where
  pub linear : IsLinear T
  pub keeps : (c : Fraction) → T (λ s. c) ≡ (λ s. c)

-- the sum of 1/k! times the value after k steps, for k from 0 to n
abbrev pub exponential_of : (Values FullState → Values FullState) → ℕ → Values FullState → Values FullState
exponential_of T n f s = total_below (suc n) (λ k. ratio 1 (factorial k) *ℚ times T k f s)

-- at values up to B, an operator at an order differs from that at any greater order by at most B times the remainder of the series
abbrev pub Settles : (ℕ → Values FullState → Values FullState) → Type 0
Settles U = (B : Fraction) (f : Values FullState) → ((s : FullState) → f s ≤ℚ B) → (n m : ℕ) → n ≤ m
    → (s : FullState) → IsNear (B *ℚ remainder_of n) (U n f s) (U m f s)

-- so does a beat, and its mean. A beat is the exponential series of the step divided by the exponential series, and the
-- exponential series of the step settles too
pub record BeatsConverge (T : Values FullState → Values FullState) : Type 0 where
  pub beats : Settles (beat_of T)
  pub means : Settles (λ n. mean_of T (suc n))
  pub divided : (n : ℕ) (f : Values FullState) (s : FullState) → beat_of T n f s *ℚ series_of n ≡ exponential_of T n f s
  pub exponentials : Settles (exponential_of T)

-- what a schedule of short beats pays, in any mode, at two orders; every schedule of a valid loop has short beats, by the
-- laws of schedules
pub record PaysConverge : Type 0 where
  pub near : (us : List Subsystem) (m : Mode) (items : List Item) → AreShort us items → (n k : ℕ) → 0 < n → n ≤ k → (s : FullState)
      → IsNear (pay_error n m items) (pay_of us n m items s) (pay_of us k m items s)

-- the figures of a valid loop at two orders differ by at most an error, which vanishes as the order grows
pub record FiguresConverge : Type 0 where
  pub near : (f : Figure) (l : LoopValue) → IsValid l → (n m : ℕ) → 0 < n → n ≤ m → IsNear (error_of f n l) (figure_of f n l) (figure_of f m l)
  pub vanishes : (f : Figure) (l : LoopValue) → IsValid l → (k : ℕ) → 0 < k → (place : ℕ) × ((n : ℕ) → place ≤ n → error_of f n l ≤ℚ ratio 1 k)

-- a valid loop has each exact figure, and one alone; it lies in each interval that contains the figures at every order from
-- some order on, and differs from the figure at any order by at most the error
pub record ExactFigures : Type 0 where
  -- of a fraction, `ContainsReal18` says what `Contains18` says
  pub of_fraction : (lo hi : ℕ) (q : Fraction) → ContainsReal18 lo hi (real_of q) → Contains18 lo hi q
  pub exists : (f : Figure) (l : LoopValue) → IsValid l → (r : Real) × IsExact f l r
  pub one : (f : Figure) (l : LoopValue) (r s : Real) → IsExact f l r → IsExact f l s → IsSame r s
  pub contained : (f : Figure) (l : LoopValue) (r : Real) → IsExact f l r → (order lo hi : ℕ)
      → ((n : ℕ) → order ≤ n → Contains18 lo hi (figure_of f n l)) → ContainsReal18 lo hi r
  pub inside : (f : Figure) (l : LoopValue) → IsValid l → (order lo hi : ℕ)
      → ((n : ℕ) → order ≤ n → Contains18 lo hi (figure_of f n l)) → ContainsExact18 f l lo hi
  pub near : (f : Figure) (l : LoopValue) → IsValid l → (r : Real) → IsExact f l r → (n : ℕ) → 0 < n → IsNearReal (error_of f n l) (figure_of f n l) r
