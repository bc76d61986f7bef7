-- The terms of the exponential series above an order, and their sum.
use Rattle.std.proofs.Common.{◌≡◌, ℕ, zero, suc, ◌+◌, ◌*◌, ◌<◌, ◌≤◌, refl, sym, ap, ◌∙◌, arith}
use Rattle.std.proofs.Math.Nat.{add-zero as nat-add-zero, add-suc as nat-add-suc, mul-le-mul_right, mul-pos}
use Rattle.sil_fraction.specs.Fraction.{Fraction, ◌+ℚ◌, ◌≤ℚ◌, whole, ratio}
use Rattle.sil_fraction.specs.Sum.{total_below}
use Rattle.sil_fraction.proofs.Laws.{add_assoc, zero-add, one-mul, le_refl, le_trans, zero-le, le_of_same, ratio-le-ratio}
use Rattle.sil_fraction.proofs.Sums.{add-zero, add-le-add, le-add_right, le-below-more, inverse-one}
use Rattle.sil_model.specs.Series.{factorial, series_of}
use Rattle.model_laws.proofs.Series.{factorial_pos}
use Rattle.model_laws.proofs.Rates.{over-add}
use Rattle.exponential_laws.proofs.Binomial.{term}
use Rattle.limit_laws.specs.Bounds.{remainder_of}

-- the sum of j values after the one at n
abbrev pub later : (ℕ → Fraction) → ℕ → ℕ → Fraction
later f n j = total_below j (λ i. f (suc (n + i)))

-- a sum up to n + j is the sum up to n and the j values after it
pub sum-later : (f : ℕ → Fraction) (n j : ℕ) → total_below (suc (n + j)) f ≡ total_below (suc n) f +ℚ later f n j
sum-later f n zero = rw nat-add-zero (sym (add-zero _))
sum-later f n (suc j) = rw nat-add-suc (ap (λ s. s +ℚ f (suc (n + j))) (sum-later f n j) ∙ add_assoc _ _ _)

pub factorial-suc : (k : ℕ) → factorial (suc k) ≡ suc k * factorial k
unfolding factorial
factorial-suc k = refl

-- twice a term is at most the one before it, from the second on
twice_next : (k : ℕ) → term (suc (suc k)) +ℚ term (suc (suc k)) ≤ℚ term (suc k)
twice_next k =
    let two : 2 ≤ suc (suc k) = omega arith in
    let F : 0 < factorial (suc k) = factorial_pos (suc k) in
    rw (over-add 1 1 (factorial (suc (suc k))), factorial-suc (suc k))
    (ratio-le-ratio (1 + 1) (suc (suc k) * factorial (suc k)) 1 (factorial (suc k)) (mul-pos (omega arith) F) F
    (omega (arith, mul-le-mul_right (factorial (suc k)) two)))

-- with its last term once more, the sum of the later terms does not grow
sum_and_last : (n j : ℕ) → later term n (suc j) +ℚ term (suc (n + j)) ≤ℚ term (suc n) +ℚ term (suc n)
sum_and_last n zero = rw (nat-add-zero, zero-add) (le_refl _)
sum_and_last n (suc j) =
    rw add_assoc (le_trans _ _ _ (add-le-add _ _ _ _ (le_refl (later term n (suc j))) (rw nat-add-suc (twice_next (n + j)))) (sum_and_last n j))

-- all later terms together are at most the remainder
pub later_small : (n j : ℕ) → later term n j ≤ℚ remainder_of n
later_small n zero = zero-le _
later_small n (suc j) =
    le_trans _ _ _ (le-add_right _ (term (suc (n + j)))) (le_trans _ _ _ (sum_and_last n j) (le_of_same _ _ (over-add 1 1 (factorial (suc n)))))

-- the series at a greater order
pub series-later : (n j : ℕ) → series_of (n + j) ≡ series_of n +ℚ later term n j
unfolding series_of
series-later n j = sum-later term n j

-- the series is at least 1
pub one_below_series : (n : ℕ) → whole 1 ≤ℚ series_of n
unfolding series_of factorial
one_below_series n =
    let e : 1 + n ≡ suc n = omega arith in
    let h : total_below 1 (λ k. ratio 1 (factorial k)) ≤ℚ total_below (suc n) (λ k. ratio 1 (factorial k)) =
    rw e at (le-below-more 1 n (λ k. ratio 1 (factorial k))) in
    rw (zero-add, one-mul, inverse-one) at h

-- the remainders fall
pub remainder-falls : (n : ℕ) → remainder_of (suc n) ≤ℚ remainder_of n
remainder-falls n =
    let F : 0 < factorial (suc n) = factorial_pos (suc n) in
    let one : 1 ≤ suc (suc n) = omega arith in
    rw (factorial-suc (suc n))
    (ratio-le-ratio 2 (suc (suc n) * factorial (suc n)) 2 (factorial (suc n)) (mul-pos (omega arith) F) F
    (omega (arith, mul-le-mul_right (factorial (suc n)) one)))
