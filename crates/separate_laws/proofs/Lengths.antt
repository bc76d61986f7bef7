-- The series of two lengths, and powers of what is little more than 1.
use Rattle.std.proofs.Common.{◌≡◌, ℕ, zero, suc, ◌+◌, ◌-◌, ◌*◌, ◌^◌, ◌<◌, ◌≤◌, refl, sym, ap, ◌∙◌, arith}
use Rattle.std.proofs.Math.Nat.{mul-pos, add-suc, add-zero}
use Rattle.sil_fraction.specs.Fraction.{Fraction, of, ◌+ℚ◌, ◌*ℚ◌, ◌≤ℚ◌, whole, ratio, inverse}
use Rattle.sil_fraction.proofs.Laws.{add_assoc, mul_assoc, mul_comm, mul-add, one-mul, whole-mul, whole-le, mul-inverse, ratio-add, ratio-le-ratio, front}
use Rattle.sil_fraction.proofs.Laws.{le_refl, le_trans, le_of_same, mul-le-left, mul-le-right}
use Rattle.sil_fraction.proofs.Sums.{le-add_right, le-below-more, add-le-add, le_from_scaled, mul-one}
use Rattle.sil_model.specs.Series.{factorial, series_of}
use Rattle.model_laws.proofs.Series.{factorial_pos, series_positive}
use Rattle.separate_laws.proofs.Multiples.{whole-more, power, power-le, power-mul, power-one}

-- what is left of the series after 1/n! is below 1/(n * n!)
abbrev left : ℕ → Fraction
left n = ratio 1 (n * factorial n)

left_numbers : (n f : ℕ) → (1 * (suc n * (suc n * f)) + 1 * (suc n * f)) * (n * f) ≤ 1 * ((suc n * f) * (suc n * (suc n * f)))
left_numbers n f = omega arith

left_step : (n : ℕ) → 0 < n → ratio 1 (factorial (suc n)) +ℚ left (suc n) ≤ℚ left n
unfolding factorial
left_step n h =
    let p : 0 < factorial n = factorial_pos n in
    let q : 0 < suc n * factorial n = mul-pos (omega arith) p in
    let q' : 0 < suc n * (suc n * factorial n) = mul-pos (omega arith) q in
    rw (ratio-add 1 (suc n * factorial n) 1 (suc n * (suc n * factorial n)) q q')
    (ratio-le-ratio _ _ _ _ (mul-pos q q') (mul-pos h p) (left_numbers n (factorial n)))

bound_step : (n : ℕ) → 0 < n → series_of (suc n) +ℚ left (suc n) ≤ℚ series_of n +ℚ left n
unfolding series_of
bound_step n h = le_trans _ _ _ (le_of_same _ _ (add_assoc _ _ _)) (add-le-add _ _ _ _ (le_refl (series_of n)) (left_step n h))

bound_from : (n k : ℕ) → 0 < n → series_of (n + k) +ℚ left (n + k) ≤ℚ series_of n +ℚ left n
bound_from n zero h = rw add-zero (le_refl _)
bound_from n (suc k) h = rw add-suc (le_trans _ _ _ (bound_step (n + k) (omega arith)) (bound_from n k h))

pub series-grows : (n k : ℕ) → n ≤ k → series_of n ≤ℚ series_of k
unfolding series_of
series-grows n k h =
    let e : suc n + (k - n) ≡ suc k = omega arith in
    rw e at (le-below-more (suc n) (k - n) (λ k. ratio 1 (factorial k)))

series_below : (n k : ℕ) → 0 < n → n ≤ k → series_of k ≤ℚ series_of n +ℚ left n
series_below n k some h =
    let e : n + (k - n) ≡ k = omega arith in
    le_trans _ _ _ (le-add_right _ _) (rw e at (bound_from n (k - n) some))

left_numeral : whole (2 ^ 49) *ℚ left 16 ≤ℚ whole 2
unfolding factorial Fraction of ◌*ℚ◌ ◌≤ℚ◌ whole inverse
left_numeral = refl

two_numeral : whole 2 ≤ℚ series_of 1
unfolding series_of factorial Fraction of ◌+ℚ◌ ◌*ℚ◌ ◌≤ℚ◌ whole inverse
two_numeral = refl

most_numeral : whole 4 *ℚ (series_of 3 +ℚ left 3) ≤ℚ whole 11
unfolding series_of factorial Fraction of ◌+ℚ◌ ◌*ℚ◌ ◌≤ℚ◌ whole inverse
most_numeral = refl

-- no series is above 11/4
pub series-most : (N : ℕ) → 3 ≤ N → whole 4 *ℚ series_of N ≤ℚ whole 11
series-most N h = le_trans _ _ _ (mul-le-left (whole 4) _ _ (series_below 3 N (omega arith) h)) most_numeral

-- from 16 on a longer series is greater by 2^-49 at most
pub series-near : (N L : ℕ) → 16 ≤ N → N ≤ L → whole (2 ^ 49) *ℚ series_of L ≤ℚ whole (2 ^ 49 + 1) *ℚ series_of N
series-near N L h g =
    let D : Fraction = whole (2 ^ 49) in
    let more : series_of L ≤ℚ series_of N +ℚ left 16 =
    le_trans _ _ _ (series_below 16 L (omega arith) (omega arith)) (add-le-add _ _ _ _ (series-grows 16 N h) (le_refl _)) in
    let two : whole 2 ≤ℚ series_of N = le_trans _ _ _ two_numeral (series-grows 1 N (omega arith)) in
    le_trans _ _ _ (mul-le-left D _ _ more) (le_trans _ _ _ (le_of_same _ _ (mul-add D _ _))
    (le_trans _ _ _ (add-le-add _ _ _ _ (le_refl _) (le_trans _ _ _ left_numeral two))
    (le_of_same _ _ (sym (whole-more (2 ^ 49) (series_of N))))))

-- powers of what is at most 1 + 1/D are at most D/(D - j)
module _ (x : Fraction) (D : ℕ) (some : 0 < D) (near : x *ℚ whole D ≤ℚ whole (D + 1)) where
  pub power-near : (j r : ℕ) → r + j ≡ D → power x j *ℚ whole r ≤ℚ whole D
  power-near zero r e = le_trans _ _ _ (le_of_same _ _ (one-mul _)) (whole-le r D (omega arith))
  power-near (suc j) r e =
      let p : Fraction = power x j in
      let before : p *ℚ whole (suc r) ≤ℚ whole D = power-near j (suc r) (omega arith) in
      let numbers : (D + 1) * r ≤ suc r * D = omega arith in
      let products : whole (D + 1) *ℚ whole r ≤ℚ whole (suc r) *ℚ whole D =
      le_trans _ _ _ (le_of_same _ _ (sym (whole-mul (D + 1) r))) (le_trans _ _ _ (whole-le _ _ numbers) (le_of_same _ _ (whole-mul (suc r) D))) in
      le_from_scaled D _ _ some
      (le_trans _ _ _ (le_of_same _ _ (apart x p (whole r) (whole D)))
      (le_trans _ _ _ (mul-le-left p _ _ (mul-le-right _ _ (whole r) near))
      (le_trans _ _ _ (mul-le-left p _ _ products)
      (le_trans _ _ _ (le_of_same _ _ (sym (mul_assoc p _ _))) (mul-le-right _ _ (whole D) before)))))
    where
      apart : (a b c d : Fraction) → ((a *ℚ b) *ℚ c) *ℚ d ≡ b *ℚ ((a *ℚ d) *ℚ c)
      apart a b c d = grind (arith, mul_assoc, mul_comm)

-- the quotient of two series
module _ (N L : ℕ) (late : 16 ≤ N) (longer : N ≤ L) where
  abbrev quotient : Fraction
  quotient = inverse (series_of N) *ℚ series_of L

  undone : inverse (series_of N) *ℚ series_of N ≡ whole 1
  undone = mul_comm _ _ ∙ mul-inverse (series_of N) (series_positive N)

  near : quotient *ℚ whole (2 ^ 49) ≤ℚ whole (2 ^ 49 + 1)
  near =
      le_trans _ _ _ (le_of_same _ _ (mul_assoc _ _ _ ∙ ap (λ s. inverse (series_of N) *ℚ s) (mul_comm _ _)))
      (le_trans _ _ _ (mul-le-left (inverse (series_of N)) _ _ (series-near N L late longer))
      (le_of_same _ _ (front _ _ _ ∙ ap (λ s. whole (2 ^ 49 + 1) *ℚ s) undone ∙ mul-one _)))

  -- at most 1 + 2^-46, up to its sixth power
  pub quotient-most : (j : ℕ) → j ≤ 6 → power quotient j *ℚ whole (2 ^ 46) ≤ℚ whole (2 ^ 46 + 1)
  quotient-most j h =
      let e : (2 ^ 49 - j) + j ≡ 2 ^ 49 = omega arith in
      let r : ℕ = 2 ^ 49 - 6 in
      let p : Fraction = power quotient j in
      let six : p *ℚ whole r ≤ℚ whole (2 ^ 49) =
      le_trans _ _ _ (mul-le-left p _ _ (whole-le r (2 ^ 49 - j) (omega arith))) (power-near quotient (2 ^ 49) (omega arith) near j (2 ^ 49 - j) e) in
      let numbers : 2 ^ 46 * 2 ^ 49 ≤ (2 ^ 46 + 1) * r = omega arith in
      le_from_scaled r _ _ (omega arith)
      (le_trans _ _ _ (le_of_same _ _ (mul_assoc _ _ _ ∙ ap (λ s. p *ℚ s) (mul_comm _ _) ∙ sym (mul_assoc _ _ _) ∙ mul_comm _ _))
      (le_trans _ _ _ (mul-le-left (whole (2 ^ 46)) _ _ six)
      (le_trans _ _ _ (le_of_same _ _ (sym (whole-mul _ _))) (le_trans _ _ _ (whole-le _ _ numbers) (le_of_same _ _ (whole-mul (2 ^ 46 + 1) r))))))

  pub quotient-least : (j : ℕ) → whole 1 ≤ℚ power quotient j
  quotient-least j =
      le_trans _ _ _ (le_of_same _ _ (sym (power-one j)))
      (power-le _ _ (le_trans _ _ _ (le_of_same _ _ (sym undone)) (mul-le-left (inverse (series_of N)) _ _ (series-grows N L longer))) j)

  -- the factor of the series of all steps, against the one series and against the other
  abbrev pub factor_of : ℕ → Fraction
  factor_of k = power (inverse (series_of N)) (suc k) *ℚ power (series_of L) k

  pub factor-long : (k : ℕ) → factor_of k *ℚ series_of L ≡ power quotient (suc k)
  factor-long k = mul_assoc _ _ _ ∙ ap (λ s. power (inverse (series_of N)) (suc k) *ℚ s) (mul_comm _ _) ∙ sym (power-mul (inverse (series_of N)) (series_of L) (suc k))

  pub factor-short : (k : ℕ) → factor_of k *ℚ series_of N ≡ power quotient k
  factor-short k =
      apart (inverse (series_of N)) (power (inverse (series_of N)) k) (power (series_of L) k) (series_of N)
      ∙ ap (λ s. s *ℚ (power (inverse (series_of N)) k *ℚ power (series_of L) k)) undone ∙ one-mul _
      ∙ sym (power-mul (inverse (series_of N)) (series_of L) k)
    where
      apart : (a b c d : Fraction) → ((a *ℚ b) *ℚ c) *ℚ d ≡ (a *ℚ d) *ℚ (b *ℚ c)
      apart a b c d = grind (arith, mul_assoc, mul_comm)
