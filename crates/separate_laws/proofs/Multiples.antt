-- Powers of a fraction, and the series of multiples of a step, of constant steps and of steps that agree below a number.
use Rattle.std.proofs.Common.{◌≡◌, ℕ, zero, suc, ◌+◌, ◌^◌, ◌<◌, refl, sym, ap, ◌∙◌, arith}
use Rattle.std.proofs.Math.Nat.{pow-zero, pow-succ'}
use mathlib.Core.Path.{fun_ext}
use Rattle.sil_fraction.specs.Fraction.{Fraction, ◌+ℚ◌, ◌*ℚ◌, ◌≤ℚ◌, whole, ratio}
use Rattle.sil_fraction.specs.Sum.{total_below}
use Rattle.sil_fraction.proofs.Laws.{mul_comm, mul_assoc, mul-add, zero-mul, one-mul, whole-add, whole-mul, front}
use Rattle.sil_fraction.proofs.Laws.{le_refl, le_trans, le_of_same, le_antisymm, mul-le-left, mul-le-mul, add-le-cancel_right}
use Rattle.sil_fraction.proofs.Sums.{below-first, below-constant, mul-below, add-mul, add-zero, mul-zero, inverse-one}
use Rattle.sil_model.specs.Series.{Values, times, factorial, series_of}
use Rattle.model_laws.specs.Polynomial.{IsLinear}
use Rattle.model_laws.proofs.Operators.{times-one}
use Rattle.exponential_laws.specs.Exponential.{exponential_of, both, Commute}
use Rattle.exponential_laws.specs.Laws.{ExponentialLaw}
use Rattle.separate_laws.specs.DigitLaws.{StaysBelow}
use Rattle.separate_laws.proofs.Steps.{Step, scaled}

pub whole-more : (a : ℕ) (x : Fraction) → whole (a + 1) *ℚ x ≡ whole a *ℚ x +ℚ x
whole-more a x = ap (λ s. s *ℚ x) (whole-add a 1) ∙ add-mul _ _ _ ∙ ap (λ s. whole a *ℚ x +ℚ s) (one-mul _)

-- x multiplied by itself
abbrev pub power : Fraction → ℕ → Fraction
power x zero = whole 1
power x (suc k) = x *ℚ power x k

pub power-le : (x y : Fraction) → x ≤ℚ y → (k : ℕ) → power x k ≤ℚ power y k
power-le x y h zero = le_refl _
power-le x y h (suc k) = mul-le-mul _ _ _ _ h (power-le x y h k)

pub power-mul : (x y : Fraction) (k : ℕ) → power (x *ℚ y) k ≡ power x k *ℚ power y k
power-mul x y zero = sym (one-mul _)
power-mul x y (suc k) = ap (λ s. (x *ℚ y) *ℚ s) (power-mul x y k) ∙ apart x y (power x k) (power y k)
  where
    apart : (a b c d : Fraction) → (a *ℚ b) *ℚ (c *ℚ d) ≡ (a *ℚ c) *ℚ (b *ℚ d)
    apart a b c d = grind (arith, mul_assoc, mul_comm)

pub power-one : (k : ℕ) → power (whole 1) k ≡ whole 1
power-one zero = refl
power-one (suc k) = one-mul _ ∙ power-one k

pub power-whole : (a k : ℕ) → power (whole a) k ≡ whole (a ^ k)
power-whole a zero = ap whole (sym (pow-zero a))
power-whole a (suc k) = ap (λ s. whole a *ℚ s) (power-whole a k) ∙ sym (whole-mul a (a ^ k)) ∙ ap whole (sym (pow-succ' a k))

-- the step that stays
unfoldable pub stay : Step
stay f = f

pub stay-linear : IsLinear stay
unfolding stay
stay-linear = record { adds = λ f g. refl; scales = λ c f. refl; grows = λ f g h. h }

-- a times what the step T gives
abbrev pub multiple : ℕ → Step → Step
multiple a T f i = whole a *ℚ T f i

-- a step before a factor, applied many times
module _ (T : Step) (t : IsLinear T) (c : Fraction) where
  pub times-scaled : (k : ℕ) (f : Values ℕ) → times (λ (g : Values ℕ). scaled c (T g)) k f ≡ scaled (power c k) (times T k f)
  times-scaled zero f = fun_ext (λ i. sym (one-mul _))
  times-scaled (suc k) f =
      ap (λ (g : Values ℕ). scaled c (T g)) (times-scaled k f) ∙ ap (scaled c) (t.scales (power c k) (times T k f))
      ∙ fun_ext (λ i. sym (mul_assoc _ _ _))

  pub scaled-linear : IsLinear (λ (g : Values ℕ). scaled c (T g))
  scaled-linear = record {
    adds = λ f g. ap (scaled c) (t.adds f g) ∙ fun_ext (λ i. mul-add c _ _);
    scales = λ b f. ap (scaled c) (t.scales b f) ∙ fun_ext (λ i. front c b _);
    grows = λ f g h i. mul-le-left c _ _ (t.grows f g h i);
  }

-- the series of a multiple is at most the series so often
module _ (law : (X Y : Step) → IsLinear X → IsLinear Y → Commute X Y → ExponentialLaw X Y) (T : Step) (t : IsLinear T) where
  none : (L : ℕ) (g : Values ℕ) (i : ℕ) → exponential_of (multiple 0 T) L g i ≡ g i
  unfolding exponential_of factorial
  none L g i =
      let each : (k : ℕ) → ratio 1 (factorial (suc k)) *ℚ times (multiple 0 T) (suc k) g i ≡ whole 0 =
      λ k. ap (λ s. ratio 1 (factorial (suc k)) *ℚ s) (zero-mul _) ∙ mul-zero _ in
      below-first L _ ∙ ap (λ s. ratio 1 1 *ℚ g i +ℚ s) (ap (total_below L) (fun_ext each) ∙ below-constant L (whole 0) ∙ mul-zero _) ∙ add-zero _
      ∙ ap (λ s. (whole 1 *ℚ s) *ℚ g i) inverse-one ∙ ap (λ s. s *ℚ g i) (one-mul _) ∙ one-mul _

  one_more : (a : ℕ) → multiple (suc a) T ≡ both (multiple a T) T
  one_more a =
      let e : suc a ≡ a + 1 = omega arith in
      fun_ext (λ f. fun_ext (λ i. ap (λ k. whole k *ℚ T f i) e ∙ whole-more a (T f i)))

  pub multiple-series : (a L : ℕ) (g : Values ℕ) (i : ℕ) → exponential_of (multiple a T) L g i ≤ℚ times (exponential_of T L) a g i
  multiple-series zero L g i = le_of_same _ _ (none L g i)
  multiple-series (suc a) L g i =
      let X : Step = multiple a T in
      let x : IsLinear X = scaled-linear T t (whole a) in
      let commute : Commute X T = record { either = λ f. sym (t.scales (whole a) (T f)) } in
      le_trans _ _ _ (le_of_same _ _ (ap (λ (Z : Step). exponential_of Z L g i) (one_more a)))
      (le_trans _ _ _ ((law X T x t commute).above L g i)
      (le_trans _ _ _ (multiple-series a L (exponential_of T L g) i) (le_of_same _ _ (ap (λ (h : Values ℕ). h i) (times-one (exponential_of T L) a g)))))

-- the series of the step that stays
times-stay : (k : ℕ) (f : Values ℕ) → times stay k f ≡ f
unfolding stay
times-stay zero f = refl
times-stay (suc k) f = times-stay k f

pub stay-series : (L : ℕ) (f : Values ℕ) → exponential_of stay L f ≡ scaled (series_of L) f
unfolding exponential_of series_of
stay-series L f = fun_ext (λ i.
    ap (total_below (suc L)) (fun_ext (λ k. ap (λ (g : Values ℕ). ratio 1 (factorial k) *ℚ g i) (times-stay k f) ∙ mul_comm _ (f i)))
    ∙ sym (mul-below (suc L) (f i) _) ∙ mul_comm _ _)

pub times-factor : (c : Fraction) (k : ℕ) (f : Values ℕ) (i : ℕ) → times (scaled c) k f i ≡ power c k *ℚ f i
times-factor c zero f i = sym (one-mul _)
times-factor c (suc k) f i = ap (λ s. c *ℚ s) (times-factor c k f i) ∙ sym (mul_assoc _ _ _)

-- a step that keeps constants: its series
module _ (T : Step) (c : Fraction) (keeps : T (λ i. c) ≡ (λ i. c)) where
  kept : (k : ℕ) → times T k (λ i. c) ≡ (λ i. c)
  kept zero = refl
  kept (suc k) = ap T (kept k) ∙ keeps

  pub constant-series : (L : ℕ) (i : ℕ) → exponential_of T L (λ i. c) i ≡ series_of L *ℚ c
  unfolding exponential_of series_of
  constant-series L i =
      ap (total_below (suc L)) (fun_ext (λ k. ap (λ (g : Values ℕ). ratio 1 (factorial k) *ℚ g i) (kept k) ∙ mul_comm _ c))
      ∙ sym (mul-below (suc L) c _) ∙ mul_comm _ _

-- steps that are the same below n
module _ (n : ℕ) (X Y : Step) (stays : StaysBelow n X) (same : (f : Values ℕ) (i : ℕ) → i < n → X f i ≡ Y f i) where
  pub times-same : (k : ℕ) (f : Values ℕ) (i : ℕ) → i < n → times X k f i ≡ times Y k f i
  times-same zero f i h = refl
  times-same (suc k) f i h = stays.same (times X k f) (times Y k f) (λ j p. times-same k f j p) i h ∙ same (times Y k f) i h

  pub series-same : (L : ℕ) (f : Values ℕ) (i : ℕ) → i < n → exponential_of X L f i ≡ exponential_of Y L f i
  unfolding exponential_of
  series-same L f i h = ap (total_below (suc L)) (fun_ext (λ k. ap (λ s. ratio 1 (factorial k) *ℚ s) (times-same k f i h)))

pub add-cancel : (x y z : Fraction) → x +ℚ z ≡ y +ℚ z → x ≡ y
add-cancel x y z e = le_antisymm _ _ (add-le-cancel_right x y z (le_of_same _ _ e)) (add-le-cancel_right y x z (le_of_same _ _ (sym e)))
