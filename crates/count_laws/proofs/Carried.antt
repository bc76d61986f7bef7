-- A step on some places that agrees with a step on others, where the places are read as those: so do many steps, beats and means.
use Rattle.std.proofs.Common.{◌≡◌, ℕ, zero, suc, ◌-◌, refl, sym, ap, ◌∙◌}
use mathlib.Core.Path.{fun_ext}
use Rattle.sil_fraction.specs.Fraction.{Fraction, ◌*ℚ◌, ratio, inverse}
use Rattle.sil_fraction.specs.Sum.{total_below}
use Rattle.sil_model.specs.Series.{Values, times, factorial, series_of, tail_of, beat_of, mean_of}

-- at the places that count, a value is the one at the place that is read for them
module _ {I J : Type 0} (Counts : I → Type 0) (place : I → J) where
  abbrev pub IsRead : Values I → Values J → Type 0
  IsRead f g = (i : I) → Counts i → f i ≡ g (place i)

  abbrev pub Carries : (Values I → Values I) → (Values J → Values J) → Type 0
  Carries T U = (f : Values I) (g : Values J) → IsRead f g → IsRead (T f) (U g)

  module _ (T : Values I → Values I) (U : Values J → Values J) (carries : Carries T U) where
    pub times-carries : (k : ℕ) → Carries (times T k) (times U k)
    times-carries zero f g h = h
    times-carries (suc k) f g h = carries (times T k f) (times U k g) (times-carries k f g h)

    pub beat-carries : (n : ℕ) → Carries (beat_of T n) (beat_of U n)
    unfolding beat_of
    beat-carries n f g h i c =
        ap (λ (t : ℕ → Fraction). total_below (suc n) t *ℚ inverse (series_of n))
        (fun_ext (λ k. ap (λ x. ratio 1 (factorial k) *ℚ x) (times-carries k f g h i c)))

    pub mean-carries : (n : ℕ) → Carries (mean_of T n) (mean_of U n)
    unfolding mean_of
    mean-carries n f g h i c =
        ap (λ (t : ℕ → Fraction). total_below n t *ℚ inverse (series_of (n - 1)))
        (fun_ext (λ k. ap (λ x. tail_of n k *ℚ x) (times-carries k f g h i c)))

-- a step that takes a place for another as it takes the values there
module _ {I : Type 0} (T : Values I → Values I) (e : I → I) (commutes : (f : Values I) (i : I) → T f (e i) ≡ T (λ x. f (e x)) i) where
  abbrev Everywhere : I → Type 0
  Everywhere i = Unit {0}

  carries : Carries Everywhere e T T
  carries f g h i c = ap (λ (v : Values I). T v i) (fun_ext (λ j. h j tt)) ∙ sym (commutes g i)

  pub beat-along : (n : ℕ) (f : Values I) (i : I) → beat_of T n f (e i) ≡ beat_of T n (λ x. f (e x)) i
  beat-along n f i = sym (beat-carries Everywhere e T T carries n (λ x. f (e x)) f (λ j c. refl) i tt)

  pub mean-along : (n : ℕ) (f : Values I) (i : I) → mean_of T n f (e i) ≡ mean_of T n (λ x. f (e x)) i
  mean-along n f i = sym (mean-carries Everywhere e T T carries n (λ x. f (e x)) f (λ j c. refl) i tt)
