-- The weights lie below the series of every length.
use Rattle.std.proofs.Common.{◌≡◌, ℕ, zero, suc, ◌+◌, ◌-◌, ◌*◌, ◌^◌, ◌<◌, ◌≤◌, refl, ap, ◌∙◌, arith, inl, inr}
use Rattle.std.proofs.Math.Nat.{mul-pos, add-suc, add-zero, mul-le-mul_right, div-mul-le_self}
use Rattle.std.proofs.lemmas.Bool.{cases_lt}
use Rattle.sil_fraction.specs.Fraction.{Fraction, of, ◌+ℚ◌, ◌*ℚ◌, ◌≤ℚ◌, whole, ratio, inverse}
use Rattle.sil_fraction.specs.Sum.{total_below, sum_below}
use Rattle.sil_fraction.proofs.Laws.{le_refl, le_trans, mul-le-right, mul-le-left, ratio-le-ratio, ratio-add, add_assoc, mul_comm, mul_assoc, mul-add, whole-mul, whole-le, whole-add, zero-mul, one-mul, mul-inverse, le_of_same}
use Rattle.sil_fraction.proofs.Sums.{le-add_right, le-below-more, add-le-add, whole-positive, mul-zero, add-mul, divided}
use Rattle.sil_model.specs.Series.{factorial, series_of, tail_of}
use Rattle.model_laws.proofs.Series.{factorial_pos, series_positive}
use Rattle.sil_model.specs.WeightTable.{first_weight, weight_of, mean_weight_of}
use Rattle.series_weights.specs.Weights.{IsBelowTerm, IsBelowTail}

-- what is left of the series after 1/n! is below 1/(n * n!)
abbrev rest : ℕ → Fraction
rest n = ratio 1 (n * factorial n)

rest_numbers : (n f : ℕ) → (1 * (suc n * (suc n * f)) + 1 * (suc n * f)) * (n * f) ≤ 1 * ((suc n * f) * (suc n * (suc n * f)))
rest_numbers n f = omega arith

rest_step : (n : ℕ) → 0 < n → ratio 1 (factorial (suc n)) +ℚ rest (suc n) ≤ℚ rest n
unfolding factorial
rest_step n h =
    let p : 0 < factorial n = factorial_pos n in
    let q : 0 < suc n * factorial n = mul-pos (omega arith) p in
    let q' : 0 < suc n * (suc n * factorial n) = mul-pos (omega arith) q in
    rw (ratio-add 1 (suc n * factorial n) 1 (suc n * (suc n * factorial n)) q q')
    (ratio-le-ratio _ _ _ _ (mul-pos q q') (mul-pos h p) (rest_numbers n (factorial n)))

bound_step : (n : ℕ) → 0 < n → series_of (suc n) +ℚ rest (suc n) ≤ℚ series_of n +ℚ rest n
unfolding series_of
bound_step n h = rw add_assoc (add-le-add _ _ _ _ (le_refl (series_of n)) (rest_step n h))

bound_from : (n k : ℕ) → 0 < n → series_of (n + k) +ℚ rest (n + k) ≤ℚ series_of n +ℚ rest n
bound_from n zero h = rw add-zero (le_refl _)
bound_from n (suc k) h = rw add-suc (le_trans _ _ _ (bound_step (n + k) (omega arith)) (bound_from n k h))

-- a bound on the series of every length
series_below : (n : ℕ) → series_of n ≤ℚ series_of 40 +ℚ rest 40
unfolding series_of
series_below n =
    elim (cases_lt n 40) [
      | inl h ↦
          let e : suc n + (40 - n) ≡ 41 = omega arith in
          le_trans _ _ _ (rw e at (le-below-more (suc n) (40 - n) (λ k. ratio 1 (factorial k)))) (le-add_right _ _)
      | inr h ↦
          let e : 40 + (n - 40) ≡ n = omega arith in
          le_trans _ _ _ (le-add_right (series_of n) (rest n)) (rw e at (bound_from 40 (n - 40) (omega arith)))
    ]

bound_numeral : whole first_weight *ℚ (series_of 40 +ℚ rest 40) ≤ℚ whole (2 ^ 48)
unfolding series_of factorial Fraction of ◌+ℚ◌ ◌*ℚ◌ ◌≤ℚ◌ whole inverse
bound_numeral = refl

first_within : (n : ℕ) → whole first_weight *ℚ series_of n ≤ℚ whole (2 ^ 48)
first_within n = le_trans _ _ _ (mul-le-left (whole first_weight) _ _ (series_below n)) bound_numeral

weight-factorial : (k : ℕ) → weight_of k * factorial k ≤ first_weight
unfolding weight_of factorial
weight-factorial zero = omega arith
weight-factorial (suc k) = omega (arith, weight-factorial k, mul-le-mul_right (factorial k) (div-mul-le_self (weight_of k) (suc k)))

mul_swap : (x y z : Fraction) → x *ℚ y *ℚ z ≡ x *ℚ z *ℚ y
mul_swap x y z = cc (mul_assoc x y z, mul_comm y z, mul_assoc x z y)

pub below_term : (k : ℕ) → IsBelowTerm (weight_of k) k
below_term k = record {
  below = λ n.
      let e : whole (weight_of k) *ℚ series_of n *ℚ whole (factorial k) ≡ whole (weight_of k * factorial k) *ℚ series_of n = rw whole-mul (mul_swap _ _ _) in
      rw e (le_trans _ _ _ (mul-le-right _ _ (series_of n) (whole-le _ _ (weight-factorial k))) (first_within n));
}

-- the weight times the series is at most its share of the whole
within_share : (w n k : ℕ) → IsBelowTerm w k → whole w *ℚ series_of n ≤ℚ whole (2 ^ 48) *ℚ ratio 1 (factorial k)
within_share w n k h =
    le_trans _ _ _ (divided _ _ (whole (factorial k)) (whole-positive (factorial k) (factorial_pos k)) (h.below n)) (rw one-mul (le_refl _))

-- a number below a term, as a fraction, against that term of the series of any length
pub in_units-small : (w n k : ℕ) → IsBelowTerm w k → whole w *ℚ inverse (whole (2 ^ 48)) ≤ℚ ratio 1 (factorial k) *ℚ inverse (series_of n)
in_units-small w n k h =
    let P : Fraction = whole (2 ^ 48) in
    let T : Fraction = ratio 1 (factorial k) in
    let two : whole w ≤ℚ P *ℚ T *ℚ inverse (series_of n) = divided _ _ (series_of n) (series_positive n) (within_share w n k h) in
    let three : whole w *ℚ inverse P ≤ℚ (P *ℚ T *ℚ inverse (series_of n)) *ℚ inverse P = mul-le-right _ _ (inverse P) two in
    let p : P *ℚ inverse P ≡ whole 1 = mul-inverse P (whole-positive (2 ^ 48) (omega arith)) in
    le_trans _ _ _ three (le_of_same _ _ (regroup P T (inverse (series_of n)) (inverse P) ∙ ap (λ z. z *ℚ (T *ℚ inverse (series_of n))) p ∙ one-mul _))
  where
    regroup : (a b c d : Fraction) → (a *ℚ b *ℚ c) *ℚ d ≡ (a *ℚ d) *ℚ (b *ℚ c)
    regroup a b c d = grind (arith, mul_assoc, mul_comm)

tail_within : (m k n : ℕ) → whole (sum_below n (λ i. weight_of (suc (k + i)))) *ℚ series_of m ≤ℚ whole (2 ^ 48) *ℚ total_below n (λ i. ratio 1 (factorial (suc (k + i))))
unfolding sum_below
tail_within m k zero = rw (zero-mul, mul-zero) (le_refl _)
tail_within m k (suc n) = rw (whole-add, add-mul, mul-add) (add-le-add _ _ _ _ (tail_within m k n) (within_share _ m (suc (k + n)) (below_term (suc (k + n)))))

pub below_tail : (order k : ℕ) → k ≤ order → IsBelowTail order (mean_weight_of order k) k
unfolding mean_weight_of tail_of
below_tail order k h = record {
  below = λ n g.
      let e : (order - k) + (n - order) ≡ n - k = omega arith in
      let more : total_below (order - k) (λ i. ratio 1 (factorial (suc (k + i)))) ≤ℚ total_below (n - k) (λ i. ratio 1 (factorial (suc (k + i)))) = rw e at (le-below-more (order - k) (n - order) (λ i. ratio 1 (factorial (suc (k + i))))) in
      le_trans _ _ _ (tail_within (n - 1) k (order - k)) (mul-le-left (whole (2 ^ 48)) _ _ more);
}
