-- Steps that are linear and steps that commute: the step of two, iterates, series and beats.
use Rattle.std.proofs.Common.{◌≡◌, ℕ, zero, suc, refl, sym, ap, ◌∙◌}
use mathlib.Core.Path.{fun_ext}
use Rattle.sil_fraction.specs.Fraction.{Fraction, ◌+ℚ◌, ◌*ℚ◌, ◌≤ℚ◌, whole, ratio, inverse}
use Rattle.sil_fraction.specs.Sum.{total_below}
use Rattle.sil_fraction.proofs.Laws.{mul_comm, mul-add, zero-mul, mul-le-left, front}
use Rattle.sil_fraction.proofs.Sums.{add-le-add, add_swap, below-le, below-add, mul-below}
use Rattle.sil_model.specs.Series.{Values, times, factorial, series_of, beat_of}
use Rattle.model_laws.specs.Polynomial.{IsLinear}
use Rattle.model_laws.proofs.Operators.{times-linear}
use Rattle.model_laws.proofs.Beats.{beat-linear}
use Rattle.exponential_laws.specs.Exponential.{exponential_of, both, Commute}

-- equal values are equal at each place
pub same-at : {I : Type 0} {f g : Values I} → f ≡ g → (i : I) → f i ≡ g i
same-at {I} e i = ap (λ (h : Values I). h i) e

-- a linear step goes into a sum
module _ (T : Values ℕ → Values ℕ) (t : IsLinear T) where
  pub linear-below : (n : ℕ) (g : ℕ → Values ℕ) → T (λ i. total_below n (λ k. g k i)) ≡ (λ i. total_below n (λ k. T (g k) i))
  linear-below zero g = ap T (fun_ext (λ i. sym (zero-mul (whole 0)))) ∙ t.scales (whole 0) (λ i. whole 0) ∙ fun_ext (λ i. zero-mul _)
  linear-below (suc n) g =
      let more : Values ℕ → Values ℕ = λ h i. h i +ℚ T (g n) i in
      t.adds (λ i. total_below n (λ k. g k i)) (g n) ∙ ap more (linear-below n g)

  -- and into a sum of multiples
  pub linear-weighed : (n : ℕ) (c : ℕ → Fraction) (g : ℕ → Values ℕ)
      → T (λ i. total_below n (λ k. c k *ℚ g k i)) ≡ (λ i. total_below n (λ k. c k *ℚ T (g k) i))
  linear-weighed n c g =
      linear-below n (λ k i. c k *ℚ g k i)
      ∙ fun_ext (λ i. ap (total_below n) (fun_ext (λ k. same-at (t.scales (c k) (g k)) i)))

-- what two linear steps give together is linear
pub both-linear : {I : Type 0} (X Y : Values I → Values I) → IsLinear X → IsLinear Y → IsLinear (both X Y)
both-linear X Y x y = record {
  adds = λ f g. fun_ext (λ i. cc (same-at (x.adds f g) i, same-at (y.adds f g) i, add_swap (X f i) (X g i) (Y f i) (Y g i)));
  scales = λ c f. fun_ext (λ i. cc (same-at (x.scales c f) i, same-at (y.scales c f) i, mul-add c (X f i) (Y f i)));
  grows = λ f g h i. add-le-add _ _ _ _ (x.grows f g h i) (y.grows f g h i);
}

-- the series of a linear step is linear
module _ (T : Values ℕ → Values ℕ) (t : IsLinear T) (n : ℕ) where
  r : (k : ℕ) → IsLinear (times T k)
  r k = times-linear T t k

  exponential-adds : (f g : Values ℕ) → exponential_of T n (λ i. f i +ℚ g i) ≡ (λ i. exponential_of T n f i +ℚ exponential_of T n g i)
  unfolding exponential_of
  exponential-adds f g = fun_ext (λ i.
      ap (total_below (suc n)) (fun_ext (λ k. ap (λ s. ratio 1 (factorial k) *ℚ s) (same-at ((r k).adds f g) i) ∙ mul-add _ _ _))
      ∙ below-add (suc n) _ _)

  exponential-scales : (c : Fraction) (f : Values ℕ) → exponential_of T n (λ i. c *ℚ f i) ≡ (λ i. c *ℚ exponential_of T n f i)
  unfolding exponential_of
  exponential-scales c f = fun_ext (λ i.
      ap (total_below (suc n)) (fun_ext (λ k. ap (λ s. ratio 1 (factorial k) *ℚ s) (same-at ((r k).scales c f) i) ∙ front _ c _))
      ∙ sym (mul-below (suc n) c _))

  exponential-grows : (f g : Values ℕ) → ((i : ℕ) → f i ≤ℚ g i) → (i : ℕ) → exponential_of T n f i ≤ℚ exponential_of T n g i
  unfolding exponential_of
  exponential-grows f g h i = below-le (suc n) _ _ (λ k _. mul-le-left _ _ _ ((r k).grows f g h i))

  pub exponential-linear : IsLinear (exponential_of T n)
  exponential-linear = record { adds = exponential-adds; scales = exponential-scales; grows = exponential-grows }

pub commute-sym : (X Y : Values ℕ → Values ℕ) → Commute X Y → Commute Y X
commute-sym X Y c = record { either = λ f. sym (c.either f) }

-- iterates of steps that commute
pub commute-times_left : (X Y : Values ℕ → Values ℕ) → Commute X Y → (a : ℕ) → Commute (times X a) Y
commute-times_left X Y c a = record { either = past a }
  where
    past : (a : ℕ) (f : Values ℕ) → times X a (Y f) ≡ Y (times X a f)
    past zero f = refl
    past (suc a) f = ap X (past a f) ∙ c.either (times X a f)

pub commute-times : (X Y : Values ℕ → Values ℕ) → Commute X Y → (a b : ℕ) → Commute (times X a) (times Y b)
commute-times X Y c a b =
    commute-sym (times Y b) (times X a) (commute-times_left Y (times X a) (commute-sym (times X a) Y (commute-times_left X Y c a)) b)

-- two steps together commute with a linear step that commutes with each
pub commute-both : (X Y Z : Values ℕ → Values ℕ) → IsLinear Z → Commute X Z → Commute Y Z → Commute (both X Y) Z
commute-both X Y Z z c d = record {
  either = λ f. fun_ext (λ i. cc (same-at (c.either f) i, same-at (d.either f) i)) ∙ sym (z.adds (X f) (Y f));
}

-- the series of a step commutes with a linear step that commutes with it
pub commute-exponential_left : (X Y : Values ℕ → Values ℕ) → IsLinear Y → Commute X Y → (n : ℕ) → Commute (exponential_of X n) Y
unfolding exponential_of
commute-exponential_left X Y y c n = record { either = past }
  where
    past : (f : Values ℕ) → exponential_of X n (Y f) ≡ Y (exponential_of X n f)
    past f =
        let each : (k i : ℕ) → times X k (Y f) i ≡ Y (times X k f) i = λ k i. same-at ((commute-times_left X Y c k).either f) i in
        fun_ext (λ i. ap (total_below (suc n)) (fun_ext (λ k. ap (λ s. ratio 1 (factorial k) *ℚ s) (each k i))))
        ∙ sym (linear-weighed Y y (suc n) (λ k. ratio 1 (factorial k)) (λ k. times X k f))

-- and so do the series of both
pub commute-exponential : (X Y : Values ℕ → Values ℕ) → IsLinear X → IsLinear Y → Commute X Y → (m n : ℕ)
    → Commute (exponential_of X m) (exponential_of Y n)
commute-exponential X Y x y c m n =
    commute-exponential_left X (exponential_of Y n) (exponential-linear Y y n)
    (commute-sym (exponential_of Y n) X (commute-exponential_left Y X x (commute-sym X Y c) n)) m

-- a beat is the series of the step, divided by the series
pub beat-exponential : (T : Values ℕ → Values ℕ) (n : ℕ) (f : Values ℕ) (i : ℕ) → beat_of T n f i ≡ exponential_of T n f i *ℚ inverse (series_of n)
unfolding beat_of exponential_of
beat-exponential T n f i = refl

-- a beat of a step commutes with a linear step that commutes with it
pub commute-beat_left : (X Y : Values ℕ → Values ℕ) → IsLinear Y → Commute X Y → (n : ℕ) → Commute (beat_of X n) Y
commute-beat_left X Y y c n = record { either = past }
  where
    as_series : (f : Values ℕ) → beat_of X n f ≡ (λ i. inverse (series_of n) *ℚ exponential_of X n f i)
    as_series f = fun_ext (λ i. beat-exponential X n f i ∙ mul_comm _ _)

    past : (f : Values ℕ) → beat_of X n (Y f) ≡ Y (beat_of X n f)
    past f =
        let part : Values ℕ → Values ℕ = λ h i. inverse (series_of n) *ℚ h i in
        as_series (Y f) ∙ ap part ((commute-exponential_left X Y y c n).either f) ∙ sym (y.scales _ (exponential_of X n f)) ∙ ap Y (sym (as_series f))

-- and so do the beats of both
pub commute-beat : (X Y : Values ℕ → Values ℕ) → IsLinear X → IsLinear Y → Commute X Y → (m n : ℕ) → Commute (beat_of X m) (beat_of Y n)
commute-beat X Y x y c m n =
    commute-beat_left X (beat_of Y n) (beat-linear Y y n)
    (commute-sym (beat_of Y n) X (commute-beat_left Y X x (commute-sym X Y c) n)) m
