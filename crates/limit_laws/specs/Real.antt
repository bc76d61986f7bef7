-- Real numbers from 0 on, as sequences of fractions that settle.
use Rattle.std.specs.Prelude.{ℕ, ◌<◌, ◌≤◌}
use Rattle.sil_fraction.specs.Fraction.{Fraction, ◌+ℚ◌, ◌≤ℚ◌, ratio}
use Rattle.sil_fraction.proofs.Sums.{le-add_right}
use Rattle.limit_laws.specs.Near.{IsNear}

-- a real number is a Cauchy sequence of fractions with its modulus of convergence: for each k from 1 on, a place from which
-- on any two of them differ by at most 1/k. The number is what they approach, and each of them from that place on differs
-- from it by at most 1/k
pub record Real : Type 0 where
  pub at : ℕ → Fraction
  pub from : ℕ → ℕ
  pub settles : (k n m : ℕ) → 0 < k → from k ≤ n → from k ≤ m → IsNear (ratio 1 k) (at n) (at m)

-- a number is from lo to hi: its fractions that differ from it by at most 1/k are from lo - 1/k to hi + 1/k, for every k
pub record IsBetween (lo hi : Fraction) (r : Real) : Type 0 where
  pub above : (k n : ℕ) → 0 < k → r.from k ≤ n → lo ≤ℚ r.at n +ℚ ratio 1 k
  pub below : (k n : ℕ) → 0 < k → r.from k ≤ n → r.at n ≤ℚ hi +ℚ ratio 1 k

-- a fraction and a number differ by at most d
pub record IsNearReal (d q : Fraction) (r : Real) : Type 0 where
  pub near : (k n : ℕ) → 0 < k → r.from k ≤ n → IsNear (d +ℚ ratio 1 k) q (r.at n)

-- two numbers are one: each fraction of the first is as near to the second as to its own number
pub record IsSame (r s : Real) : Type 0 where
  pub near : (k n : ℕ) → 0 < k → r.from k ≤ n → IsNearReal (ratio 1 k) (r.at n) s

-- a sequence of fractions approaches a number, its limit: for each k from 1 on, from some place on they differ from it by at
-- most 1/k
pub record Approaches (x : ℕ → Fraction) (r : Real) : Type 0 where
  pub from : ℕ → ℕ
  pub near : (k n : ℕ) → 0 < k → from k ≤ n → IsNearReal (ratio 1 k) (x n) r

-- a fraction as a number
abbrev pub real_of : Fraction → Real
real_of q = record { at = λ n. q; from = λ k. 0; settles = λ k n m some p r. record { above = le-add_right q (ratio 1 k); below = le-add_right q (ratio 1 k) } }
