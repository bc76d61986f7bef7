-- The series of one length with a factor, against a beat of a shorter series.
use Rattle.std.proofs.Common.{◌≡◌, ℕ, zero, suc, ◌+◌, ◌-◌, ◌*◌, ◌^◌, ◌<◌, ◌≤◌, sym, ap, ◌∙◌, arith}
use Rattle.sil_fraction.specs.Fraction.{Fraction, ◌+ℚ◌, ◌*ℚ◌, ◌≤ℚ◌, whole, ratio, inverse}
use Rattle.sil_fraction.specs.Sum.{total_below}
use Rattle.sil_fraction.proofs.Laws.{add_comm, add_assoc, mul_assoc, mul_comm, mul-add, one-mul, whole-mul, whole-le, mul-inverse, front}
use Rattle.sil_fraction.proofs.Laws.{le_refl, le_trans, le_of_same, mul-le-left, mul-le-right, mul-le-mul}
use Rattle.sil_fraction.proofs.Sums.{le-add_right, below-append, below-le, mul-below, add-le-add, le_from_scaled, mul-one}
use Rattle.sil_model.specs.Series.{Values, times, factorial, series_of, beat_of}
use Rattle.model_laws.specs.Polynomial.{IsLinear}
use Rattle.model_laws.proofs.Series.{series_positive}
use Rattle.exponential_laws.specs.Exponential.{exponential_of, Commute}
use Rattle.exponential_laws.specs.Laws.{ExponentialLaw}
use Rattle.separate_laws.proofs.Steps.{Step, scaled, beat-series, series-linear}
use Rattle.separate_laws.proofs.Multiples.{whole-more, power, power-le, power-mul, power-whole, multiple, multiple-series, times-scaled, scaled-linear}
use Rattle.separate_laws.proofs.Lengths.{series-most, series-grows}

-- powers of what is at least 1
power-grows : (x : Fraction) → whole 1 ≤ℚ x → (j k : ℕ) → power x j ≤ℚ power x (k + j)
power-grows x h j zero = let e : 0 + j ≡ j = omega arith in rw e (le_refl _)
power-grows x h j (suc k) =
    let e : suc k + j ≡ suc (k + j) = omega arith in
    rw e (le_trans _ _ _ (power-grows x h j k) (le_trans _ _ _ (le_of_same _ _ (sym (one-mul _))) (mul-le-right _ _ _ h)))

-- a numeral against a numeral times y
against : (a b d e : ℕ) (y : Fraction) → 0 < b → a * b ≤ d * e → whole e ≤ℚ y *ℚ whole b → whole a ≤ℚ whole d *ℚ y
against a b d e y some numbers high =
    le_from_scaled b _ _ some
    (le_trans _ _ _ (le_of_same _ _ (sym (whole-mul a b)))
    (le_trans _ _ _ (whole-le _ _ numbers)
    (le_trans _ _ _ (le_of_same _ _ (whole-mul d e)) (le_trans _ _ _ (mul-le-left (whole d) _ _ high) (le_of_same _ _ (sym (mul_assoc _ _ _)))))))

-- a factor of at least 4/11 is small against its seventeenth power, 17^17 times
module _ (c : Fraction) (least : whole 4 ≤ℚ c *ℚ whole 11) where
  numbers : 2 ^ 46 * 11 ^ 16 ≤ 17 ^ 17 * 4 ^ 16
  numbers = omega arith

  sixteenth : whole (2 ^ 46) ≤ℚ power (whole 17) 17 *ℚ power c 16
  sixteenth =
      let high : whole (4 ^ 16) ≤ℚ power c 16 *ℚ whole (11 ^ 16) =
      rw (power-whole 4 16, power-whole 11 16) at
      (le_trans _ _ _ (power-le (whole 4) (c *ℚ whole 11) least 16) (le_of_same _ _ (power-mul c (whole 11) 16))) in
      rw (power-whole 17 17) (against (2 ^ 46) (11 ^ 16) (17 ^ 17) (4 ^ 16) (power c 16) (omega arith) numbers high)

  seventeenth : whole (2 ^ 46) *ℚ c ≤ℚ power c 17 *ℚ power (whole 17) 17
  seventeenth = le_trans _ _ _ (mul-le-right _ _ c sixteenth) (le_of_same _ _ (mul_assoc _ _ _ ∙ mul_comm _ _ ∙ ap (λ s. s *ℚ power (whole 17) 17) (mul_comm _ _)))

module _ (law : (X Y : Step) → IsLinear X → IsLinear Y → Commute X Y → ExponentialLaw X Y) (T : Step) (t : IsLinear T)
    (N L : ℕ) (late : 16 ≤ N) (longer : N ≤ L) (c : Fraction)
    (short : whole 1 ≤ℚ c *ℚ series_of N) (long : (c *ℚ series_of L) *ℚ whole (2 ^ 46) ≤ℚ whole (2 ^ 46 + 1)) where
  abbrev pub X : Step
  X f = scaled c (exponential_of T L f)

  pub X-linear : IsLinear X
  X-linear = scaled-linear (exponential_of T L) (series-linear T t L) c

  module _ (f : Values ℕ) (i : ℕ) where
    abbrev term : ℕ → Fraction
    term k = ratio 1 (factorial k) *ℚ times T k f i

    abbrev after : Fraction
    after = total_below (L - N) (λ k. term (suc N + k))

    -- a series cut off, and the rest of it
    parts : exponential_of T L f i ≡ exponential_of T N f i +ℚ after
    unfolding exponential_of
    parts =
        let e : suc N + (L - N) ≡ suc L = omega arith in
        rw e at (below-append (suc N) (L - N) term)

    -- the beat is below
    low : inverse (series_of N) ≤ℚ c
    low =
        le_trans _ _ _ (le_of_same _ _ (sym (mul-one _)))
        (le_trans _ _ _ (mul-le-left (inverse (series_of N)) _ _ short)
        (le_of_same _ _ (front _ c _ ∙ ap (λ s. c *ℚ s) (mul_comm _ _ ∙ mul-inverse (series_of N) (series_positive N)) ∙ mul-one _)))

    pub beat_below : beat_of T N f i ≤ℚ X f i
    beat_below =
        le_trans _ _ _ (le_of_same _ _ (ap (λ (h : Values ℕ). h i) (beat-series T N f)))
        (mul-le-mul _ _ _ _ low (le_trans _ _ _ (le-add_right _ after) (le_of_same _ _ (sym parts))))

    -- what is not cut off
    first_part : whole (2 ^ 46) *ℚ (c *ℚ exponential_of T N f i) ≤ℚ whole (2 ^ 46) *ℚ beat_of T N f i +ℚ X f i
    first_part =
        let G : Fraction = beat_of T N f i in
        let whole_of : exponential_of T N f i ≡ series_of N *ℚ G =
        sym (ap (λ (h : Values ℕ). series_of N *ℚ h i) (beat-series T N f) ∙ sym (mul_assoc _ _ _)
        ∙ ap (λ s. s *ℚ exponential_of T N f i) (mul-inverse (series_of N) (series_positive N)) ∙ one-mul _) in
        let most : (c *ℚ series_of N) *ℚ whole (2 ^ 46) ≤ℚ whole (2 ^ 46 + 1) =
        le_trans _ _ _ (mul-le-right _ _ _ (mul-le-left c _ _ (series-grows N L longer))) long in
        le_trans _ _ _ (le_of_same _ _ (ap (λ s. whole (2 ^ 46) *ℚ (c *ℚ s)) whole_of ∙ apart (whole (2 ^ 46)) c (series_of N) G))
        (le_trans _ _ _ (mul-le-right _ _ G most)
        (le_trans _ _ _ (le_of_same _ _ (whole-more (2 ^ 46) G)) (add-le-add _ _ _ _ (le_refl _) beat_below)))
      where
        apart : (a b c d : Fraction) → a *ℚ (b *ℚ (c *ℚ d)) ≡ ((b *ℚ c) *ℚ a) *ℚ d
        apart a b c d = grind (arith, mul_assoc, mul_comm)

    -- and what is
    each : (k : ℕ) → 17 ≤ k → power (whole 17) 17 *ℚ term k ≤ℚ ratio 1 (factorial k) *ℚ times (multiple 17 T) k f i
    each k h =
        let e : (k - 17) + 17 ≡ k = omega arith in
        let grown : power (whole 17) 17 ≤ℚ power (whole 17) k = rw e at (power-grows (whole 17) (whole-le 1 17 (omega arith)) 17 (k - 17)) in
        le_trans _ _ _ (le_of_same _ _ (front _ _ _)) (mul-le-left (ratio 1 (factorial k)) _ _
        (le_trans _ _ _ (mul-le-right _ _ (times T k f i) grown) (le_of_same _ _ (sym (ap (λ (h : Values ℕ). h i) (times-scaled T t (whole 17) k f))))))

    many : power (whole 17) 17 *ℚ after ≤ℚ exponential_of (multiple 17 T) L f i
    unfolding exponential_of
    many =
        let e : suc N + (L - N) ≡ suc L = omega arith in
        let g : ℕ → Fraction = λ k. ratio 1 (factorial k) *ℚ times (multiple 17 T) k f i in
        le_trans _ _ _ (le_of_same _ _ (mul-below (L - N) _ _))
        (le_trans _ _ _ (below-le (L - N) _ (λ k. g (suc N + k)) (λ k h. each (suc N + k) (omega arith)))
        (le_trans _ _ _ (le-add_right _ _) (le_of_same _ _ (add_comm _ _ ∙ sym (rw e at (below-append (suc N) (L - N) g))))))

    second_part : whole (2 ^ 46) *ℚ (c *ℚ after) ≤ℚ times X 17 f i
    second_part =
        let least : whole 4 ≤ℚ c *ℚ whole 11 =
        le_trans _ _ _ (le_of_same _ _ (sym (mul-one _)))
        (le_trans _ _ _ (mul-le-left (whole 4) _ _ short) (le_trans _ _ _ (le_of_same _ _ (front _ c _)) (mul-le-left c _ _ (series-most N (omega arith))))) in
        le_trans _ _ _ (le_of_same _ _ (sym (mul_assoc _ _ _)))
        (le_trans _ _ _ (mul-le-right _ _ after (seventeenth c least))
        (le_trans _ _ _ (le_of_same _ _ (mul_assoc _ _ _))
        (le_trans _ _ _ (mul-le-left (power c 17) _ _ (le_trans _ _ _ many (multiple-series law T t 17 L f i)))
        (le_of_same _ _ (sym (ap (λ (h : Values ℕ). h i) (times-scaled (exponential_of T L) (series-linear T t L) c 17 f)))))))

    pub near : whole (2 ^ 46) *ℚ X f i ≤ℚ whole (2 ^ 46) *ℚ beat_of T N f i +ℚ (X f i +ℚ times X 17 f i)
    near =
        le_trans _ _ _ (le_of_same _ _ (ap (λ s. whole (2 ^ 46) *ℚ (c *ℚ s)) parts ∙ ap (λ s. whole (2 ^ 46) *ℚ s) (mul-add c _ _) ∙ mul-add _ _ _))
        (le_trans _ _ _ (add-le-add _ _ _ _ first_part second_part) (le_of_same _ _ (add_assoc _ _ _)))
