-- A step along a digit: it is linear, keeps constants, stays below, and its iterates and beats are those of the step.
use Rattle.std.proofs.Common.{◌≡◌, ℕ, zero, suc, ◌*◌, ◌<◌, sym, ap, ◌∙◌}
use mathlib.Core.Path.{fun_ext}
use Rattle.sil_fraction.specs.Fraction.{◌*ℚ◌, ratio, inverse}
use Rattle.sil_fraction.specs.Sum.{total_below}
use Rattle.sil_model.specs.Series.{Values, times, factorial, series_of, beat_of}
use Rattle.model_laws.specs.Polynomial.{IsLinear}
use Rattle.lumped_laws.specs.LinearLists.{AsksBelow, KeepsConstants}
use Rattle.separate_laws.specs.Digits.{digit_of, with_digit, along}
use Rattle.separate_laws.specs.DigitLaws.{StaysBelow}
use Rattle.separate_laws.proofs.DigitNumbers.{digit-small, digit-with, with-with, with-digit, with-below}

-- what asks for values below n alone stays below n, and so do its iterates and its beats
module _ (n : ℕ) (T : Values ℕ → Values ℕ) where
  pub stays-asks : AsksBelow n T → StaysBelow n T
  stays-asks asks = record { same = λ f g h i p. asks f g h i }

  module _ (stays : StaysBelow n T) where
    times-same : (k : ℕ) (f g : Values ℕ) → ((i : ℕ) → i < n → f i ≡ g i) → (i : ℕ) → i < n → times T k f i ≡ times T k g i
    times-same zero f g h i p = h i p
    times-same (suc k) f g h i p = stays.same (times T k f) (times T k g) (times-same k f g h) i p

    pub stays-times : (k : ℕ) → StaysBelow n (times T k)
    stays-times k = record { same = times-same k }

    beat-same : (N : ℕ) (f g : Values ℕ) → ((i : ℕ) → i < n → f i ≡ g i) → (i : ℕ) → i < n → beat_of T N f i ≡ beat_of T N g i
    unfolding beat_of
    beat-same N f g h i p = ap (λ x. total_below (suc N) x *ℚ inverse (series_of N)) (fun_ext (λ k. ap (λ x. ratio 1 (factorial k) *ℚ x) (times-same k f g h i p)))

    pub stays-beat : (N : ℕ) → StaysBelow n (beat_of T N)
    stays-beat N = record { same = beat-same N }

module _ (stride base : ℕ) (some : 0 < stride) (more : 0 < base) where
  abbrev digit : ℕ → ℕ
  digit = digit_of stride base

  -- the values at a number with each digit
  abbrev with_each : Values ℕ → ℕ → Values ℕ
  with_each f i b = f (with_digit stride base i b)

  -- the value at a number's own digit
  pub along-none : (f : Values ℕ) → along stride base (λ g. g) f ≡ f
  along-none f = fun_ext (λ i. ap f (with-digit stride base some i))

  module _ (T : Values ℕ → Values ℕ) where
    pub along-linear : IsLinear T → IsLinear (along stride base T)
    along-linear t = record {
      adds = λ f g. fun_ext (λ i. ap (λ (v : Values ℕ). v (digit i)) (t.adds (with_each f i) (with_each g i)));
      scales = λ c f. fun_ext (λ i. ap (λ (v : Values ℕ). v (digit i)) (t.scales c (with_each f i)));
      grows = λ f g h i. t.grows (with_each f i) (with_each g i) (λ b. h (with_digit stride base i b)) (digit i);
    }

    pub along-keeps : KeepsConstants T → KeepsConstants (along stride base T)
    along-keeps keeps c = fun_ext (λ i. ap (λ (v : Values ℕ). v (digit i)) (keeps c))

    module _ (stays : StaysBelow base T) where
      -- values that are the same with each digit below the base
      pub along-same : (f g : Values ℕ) (i : ℕ) → ((b : ℕ) → b < base → f (with_digit stride base i b) ≡ g (with_digit stride base i b))
          → along stride base T f i ≡ along stride base T g i
      along-same f g i h = stays.same (with_each f i) (with_each g i) h (digit i) (digit-small stride base some i more)

      pub along-stays : (all : ℕ) → StaysBelow (stride * base * all) (along stride base T)
      along-stays all = record { same = λ f g h i p. along-same f g i (λ b q. h (with_digit stride base i b) (with-below stride base some i all b q p)) }

      -- two steps along one digit are one
      pub along-along : (U : Values ℕ → Values ℕ) (f : Values ℕ) → along stride base T (along stride base U f) ≡ along stride base (λ g. T (U g)) f
      along-along U f = fun_ext (λ i. stays.same (with_each (along stride base U f) i) (U (with_each f i)) (moved i) (digit i) (digit-small stride base some i more))
        where
          moved : (i b : ℕ) → b < base → along stride base U f (with_digit stride base i b) ≡ U (with_each f i) b
          moved i b p = ap (U (with_each f (with_digit stride base i b))) (digit-with stride base some i b p)
              ∙ ap (λ (g : Values ℕ). U g b) (fun_ext (λ c. ap f (with-with stride base some i b c p)))

      pub times-along : (k : ℕ) (f : Values ℕ) → times (along stride base T) k f ≡ along stride base (times T k) f
      times-along zero f = sym (along-none f)
      times-along (suc k) f = ap (along stride base T) (times-along k f) ∙ along-along (times T k) f

      pub beat-along : (N : ℕ) → beat_of (along stride base T) N ≡ along stride base (beat_of T N)
      unfolding beat_of
      beat-along N = fun_ext (λ f. fun_ext (λ i. ap (λ x. total_below (suc N) x *ℚ inverse (series_of N))
          (fun_ext (λ k. ap (λ (v : Values ℕ). ratio 1 (factorial k) *ℚ v i) (times-along k f)))))

  pub beats-along : (T : Values ℕ → Values ℕ) → StaysBelow base T → (N m : ℕ) (f : Values ℕ)
      → times (beat_of (along stride base T) N) m f ≡ along stride base (times (beat_of T N) m) f
  beats-along T stays N m f = ap (λ (G : Values ℕ → Values ℕ). times G m f) (beat-along T stays N) ∙ times-along (beat_of T N) (stays-beat base T stays N) m f
