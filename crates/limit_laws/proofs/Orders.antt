-- A beat and its mean at two orders of the series.
use Rattle.std.proofs.Common.{◌≡◌, ℕ, suc, ◌+◌, ◌-◌, refl, sym, ap, ◌∙◌, arith}
use Rattle.sil_fraction.specs.Fraction.{Fraction, ◌+ℚ◌, ◌*ℚ◌, ◌≤ℚ◌, whole, inverse}
use Rattle.sil_fraction.specs.Sum.{total_below}
use Rattle.sil_fraction.proofs.Laws.{mul_comm, mul_assoc, zero-add, zero-mul, le_refl, le_trans, mul-le-left, mul-le-right, le_of_same}
use Rattle.sil_fraction.proofs.Sums.{add-zero, add-le-add, le-add_right, below-le, below-same, below-first, below-constant, mul-below, mul-zero}
use Rattle.sil_model.specs.Series.{Values, times, series_of, tail_of, beat_of, mean_of}
use Rattle.model_laws.specs.Polynomial.{IsLinear, combined}
use Rattle.model_laws.proofs.Operators.{times-linear, times-constant}
use Rattle.model_laws.proofs.Beats.{tail_sum, tails_combined}
use Rattle.exponential_laws.proofs.Binomial.{term, next_term}
use Rattle.limit_laws.specs.Near.{IsNear}
use Rattle.limit_laws.specs.Bounds.{remainder_of}
use Rattle.limit_laws.proofs.Tails.{later, sum-later, series-later, later_small, one_below_series}
use Rattle.limit_laws.proofs.Quotients.{some_from_one, undone, quotient-mul, near_by_divisors}
use Rattle.limit_laws.proofs.Nearness.{near_wider}

-- sums of values at most B times the terms of the series, each divided by the series
module _ (c : ℕ → Fraction) (B : Fraction) (small : (k : ℕ) → c k ≤ℚ term k *ℚ B) where
  sum_small : (n : ℕ) → total_below (suc n) c ≤ℚ B *ℚ series_of n
  unfolding series_of
  sum_small n = le_trans _ _ _ (below-le (suc n) c (λ k. B *ℚ term k) (λ k h. rw (mul_comm B (term k)) (small k)))
      (le_of_same _ _ (sym (mul-below (suc n) B term)))

  pub later_smaller : (n j : ℕ) → later c n j ≤ℚ B *ℚ later term n j
  later_smaller n j = le_trans _ _ _ (below-le j _ (λ i. B *ℚ term (suc (n + i))) (λ i h. rw (mul_comm B (term (suc (n + i)))) (small (suc (n + i)))))
      (le_of_same _ _ (sym (mul-below j B (λ i. term (suc (n + i))))))

  pub divided_sum : ℕ → Fraction
  divided_sum n = total_below (suc n) c *ℚ inverse (series_of n)

  not_zero : (n : ℕ) → series_of n ≡ whole 0 → ⊥
  not_zero n = some_from_one (series_of n) (one_below_series n)

  multiplied : (n : ℕ) → divided_sum n *ℚ series_of n ≡ total_below (suc n) c
  unfolding divided_sum
  multiplied n = quotient-mul _ (series_of n) (not_zero n)

  divided_small : (n : ℕ) → divided_sum n ≤ℚ B
  unfolding divided_sum
  divided_small n = le_trans _ _ _ (mul-le-right _ _ (inverse (series_of n)) (sum_small n)) (le_of_same _ _ (undone B (series_of n) (not_zero n)))

  divided_near : (n j : ℕ) → IsNear (B *ℚ later term n j) (divided_sum n) (divided_sum (n + j))
  divided_near n j =
      let more : divided_sum (n + j) *ℚ (series_of n +ℚ later term n j) ≡ total_below (suc n) c +ℚ later c n j =
      rw (← series-later n j) (multiplied (n + j) ∙ sum-later c n j) in
      near_by_divisors (divided_sum n) (divided_sum (n + j)) B (series_of n) (later term n j) (one_below_series n)
      (rw (multiplied n, more) (le-add_right _ _))
      (rw (multiplied n, more) (add-le-add _ _ _ _ (le_refl _) (later_smaller n j)))
      (divided_small (n + j))

  pub quotients_near : (n j : ℕ)
      → IsNear (B *ℚ remainder_of n) (total_below (suc n) c *ℚ inverse (series_of n)) (total_below (suc (n + j)) c *ℚ inverse (series_of (n + j)))
  unfolding divided_sum
  quotients_near n j = near_wider _ _ _ _ (divided_near n j) (mul-le-left B _ _ (later_small n j))

-- the tails against the values, as the terms against their sums
pub tails_as_sums : (n : ℕ) (x : ℕ → Fraction) → total_below n (λ k. tail_of n k *ℚ x k) ≡ total_below n (λ k. term (suc k) *ℚ total_below (suc k) x)
unfolding tail_of
tails_as_sums n x =
    let none : tail_sum (suc n) term n ≡ whole 0 = (let e : suc n - suc n ≡ 0 = omega arith in rw e refl) in
    let tails : (k : ℕ) → tail_sum (suc n) term k ≡ tail_of n k = λ k. (let e : suc n - suc k ≡ n - k = omega arith in rw e refl) in
    let left : combined (suc n) (tail_sum (suc n) term) x ≡ total_below n (λ k. tail_of n k *ℚ x k) =
    ap (λ s. combined n (tail_sum (suc n) term) x +ℚ s *ℚ x n) none
    ∙ ap (λ s. combined n (tail_sum (suc n) term) x +ℚ s) (zero-mul (x n)) ∙ add-zero _
    ∙ below-same n _ _ (λ k h. ap (λ s. s *ℚ x k) (tails k)) in
    let right : combined (suc n) term (λ k. total_below k x) ≡ total_below n (λ k. term (suc k) *ℚ total_below (suc k) x) =
    below-first n (λ k. term k *ℚ total_below k x) ∙ ap (λ s. s +ℚ total_below n (λ k. term (suc k) *ℚ total_below (suc k) x)) (mul-zero (term 0))
    ∙ zero-add _ in
    sym left ∙ tails_combined (suc n) term x ∙ right

-- an operator that is linear and keeps the constant B, at values up to B
module _ {I : Type 0} (T : Values I → Values I) (t : IsLinear T) (B : Fraction) (kept : T (λ i. B) ≡ (λ i. B)) (f : Values I) (small : (i : I) → f i ≤ℚ B) where
  pub times_small : (k : ℕ) (i : I) → times T k f i ≤ℚ B
  times_small k i = le_trans _ _ _ ((times-linear T t k).grows f (λ i. B) small i) (le_of_same _ _ (ap (λ (g : Values I). g i) (times-constant T B kept k)))

  -- a beat at two orders
  pub beats_near : (n j : ℕ) (i : I) → IsNear (B *ℚ remainder_of n) (beat_of T n f i) (beat_of T (n + j) f i)
  unfolding beat_of
  beats_near n j i = quotients_near (λ k. term k *ℚ times T k f i) B (λ k. mul-le-left (term k) _ _ (times_small k i)) n j

  sums_small : (i : I) (k : ℕ) → term (suc k) *ℚ total_below (suc k) (λ l. times T l f i) ≤ℚ term k *ℚ B
  sums_small i k = le_trans _ _ _
      (mul-le-left (term (suc k)) _ _ (below-le (suc k) _ (λ l. B) (λ l h. times_small l i)))
      (le_of_same _ _ (ap (λ s. term (suc k) *ℚ s) (below-constant (suc k) B) ∙ sym (mul_assoc _ _ _) ∙ ap (λ s. s *ℚ B) (mul_comm _ _ ∙ next_term k)))

  -- its mean at two orders
  pub means_near : (n j : ℕ) (i : I) → IsNear (B *ℚ remainder_of n) (mean_of T (suc n) f i) (mean_of T (suc (n + j)) f i)
  unfolding mean_of
  means_near n j i =
      let x : ℕ → Fraction = λ l. times T l f i in
      let e : suc n - 1 ≡ n = omega arith in
      let g : suc (n + j) - 1 ≡ n + j = omega arith in
      rw (e, g, tails_as_sums (suc n) x, tails_as_sums (suc (n + j)) x) (quotients_near (λ k. term (suc k) *ℚ total_below (suc k) x) B (sums_small i) n j)
