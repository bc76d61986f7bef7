-- The truncated series and its tails.
use Rattle.std.proofs.Common.{◌≡◌, ℕ, zero, suc, ◌+◌, ◌-◌, ◌*◌, ◌<◌, ◌≤◌, refl, ap, ◌∙◌, arith}
use Rattle.std.proofs.Math.Nat.{mul-pos}
use Rattle.std.proofs.Math.Numerals.{one-add}
use Rattle.sil_fraction.specs.Fraction.{◌+ℚ◌, ◌*ℚ◌, ◌≤ℚ◌, whole, ratio}
use Rattle.sil_fraction.specs.Sum.{total_below}
use Rattle.sil_fraction.proofs.Laws.{zero-add, one-mul, le-whole, ratio-mul, ratio-same, whole-ratio}
use Rattle.sil_fraction.proofs.Sums.{le-below-more, below-same, below-add, below-constant, add-zero, inverse-one}
use Rattle.sil_model.specs.Series.{factorial, series_of, tail_of}

pub factorial_pos : (n : ℕ) → 0 < factorial n
unfolding factorial
factorial_pos zero = omega arith
factorial_pos (suc n) = mul-pos (omega arith) (factorial_pos n)

pub series_positive : (n : ℕ) → series_of n ≡ whole 0 → ⊥
unfolding series_of factorial
series_positive n e =
    let h : total_below 1 (λ k. ratio 1 (factorial k)) ≤ℚ series_of n = rw one-add at (le-below-more 1 n (λ k. ratio 1 (factorial k))) in
    let h' : whole 1 ≤ℚ whole 0 = rw (zero-add, one-mul, inverse-one, e) at h in
    let l : 1 ≤ 0 = le-whole 1 0 h' in
    omega arith

tail-suc : (n k : ℕ) → k ≤ n → tail_of (suc n) k ≡ tail_of n k +ℚ ratio 1 (factorial (suc n))
unfolding tail_of
tail-suc n k h =
    let e : suc n - k ≡ suc (n - k) = omega arith in
    let g : k + (n - k) ≡ n = omega arith in
    rw e (ap (λ m. total_below (n - k) (λ i. ratio 1 (factorial (suc (k + i)))) +ℚ ratio 1 (factorial (suc m))) g)

pub tail_none : (n : ℕ) → tail_of n n ≡ whole 0
unfolding tail_of
tail_none n = let e : n - n ≡ 0 = omega arith in rw e refl

-- n + 1 times 1/(n + 1)!
one_term : (n : ℕ) → whole (suc n) *ℚ ratio 1 (factorial (suc n)) ≡ ratio 1 (factorial n)
unfolding factorial
one_term n = rw (whole-ratio (suc n), ratio-mul (suc n) 1 1 (suc n * factorial n) (omega arith) (mul-pos (omega arith) (factorial_pos n)))
    (ratio-same _ _ _ _ (mul-pos (omega arith) (mul-pos (omega arith) (factorial_pos n))) (factorial_pos n) (omega arith))

-- one term more in each of the tails
tail_next : (n : ℕ) → total_below (suc n) (λ k. tail_of (suc n) k) ≡ total_below n (λ k. tail_of n k) +ℚ ratio 1 (factorial n)
tail_next n =
    below-same (suc n) (λ k. tail_of (suc n) k) (λ k. tail_of n k +ℚ ratio 1 (factorial (suc n))) (λ k h. tail-suc n k (omega arith))
    ∙ below-add (suc n) (λ k. tail_of n k) (λ k. ratio 1 (factorial (suc n)))
    ∙ rw (below-constant (suc n) (ratio 1 (factorial (suc n))), one_term n, tail_none n, add-zero) refl

tail_all : (n : ℕ) → total_below n (λ k. tail_of n k) +ℚ ratio 1 (factorial n) ≡ series_of n
unfolding series_of
tail_all zero = refl
tail_all (suc n) = ap (λ s. s +ℚ ratio 1 (factorial (suc n))) (tail_next n ∙ tail_all n)

-- the sum of the tails is the series with one term less
pub tail_total : (n : ℕ) → total_below (suc n) (λ k. tail_of (suc n) k) ≡ series_of n
tail_total n = tail_next n ∙ tail_all n

pub tail_total_at : (N n : ℕ) → N ≡ suc n → total_below N (λ k. tail_of N k) ≡ series_of (N - 1)
tail_total_at N n e = let g : suc n - 1 ≡ n = omega arith in rw (e, g) (tail_total n)
