-- The exponential series at two orders, of numbers and of a step.
use Rattle.std.proofs.Common.{◌≡◌, ℕ, suc, ◌+◌, ◌-◌, ◌*◌, ◌<◌, ◌≤◌, arith}
use Rattle.sil_fraction.specs.Fraction.{Fraction, ◌+ℚ◌, ◌*ℚ◌, ◌≤ℚ◌, ratio}
use Rattle.sil_fraction.specs.Sum.{total_below}
use Rattle.sil_fraction.proofs.Laws.{le_refl, le_trans, mul-le-left, ratio-le-ratio}
use Rattle.sil_fraction.proofs.Sums.{add-le-add, le-add_right}
use Rattle.sil_model.specs.State.{FullState}
use Rattle.sil_model.specs.Series.{Values, times, factorial, series_of, beat_of, mean_of}
use Rattle.model_laws.proofs.Series.{factorial_pos}
use Rattle.exponential_laws.proofs.Binomial.{term}
use Rattle.limit_laws.specs.Near.{IsNear}
use Rattle.limit_laws.specs.Real.{Real, Approaches}
use Rattle.limit_laws.specs.Bounds.{remainder_of}
use Rattle.limit_laws.specs.Laws.{IsMarkov, exponential_of}
use Rattle.limit_laws.proofs.Tails.{later, sum-later, series-later, later_small, one_below_series}
use Rattle.limit_laws.proofs.Quotients.{some_from_one, quotient-mul}
use Rattle.limit_laws.proofs.Orders.{later_smaller, times_small, beats_near, means_near}
use Rattle.limit_laws.proofs.Limits.{limit, approaches_limit}
use Rattle.limit_laws.proofs.Figures.{le_factorial}

-- a sum to which little is added
near_more : (x y d : Fraction) → y ≤ℚ d → IsNear d x (x +ℚ y)
near_more x y d h = record { above = le_trans _ _ _ (le-add_right x y) (le-add_right (x +ℚ y) d); below = add-le-add _ _ _ _ (le_refl x) h }

pub series_near : (n m : ℕ) → n ≤ m → IsNear (remainder_of n) (series_of n) (series_of m)
series_near n m le =
    let e : n + (m - n) ≡ m = omega arith in
    let g : series_of m ≡ series_of n +ℚ later term n (m - n) = rw e at (series-later n (m - n)) in
    rw g (near_more (series_of n) (later term n (m - n)) (remainder_of n) (later_small n (m - n)))

remainder_small : (k n : ℕ) → 0 < k → 2 * k ≤ n → remainder_of n ≤ℚ ratio 1 k
remainder_small k n some h = ratio-le-ratio 2 (factorial (suc n)) 1 k (factorial_pos (suc n)) some (omega (arith, le_factorial (suc n), h))

pub series_limit : (e : Real) × Approaches series_of e
series_limit = (
  limit series_of remainder_of (λ n m some le. series_near n m le) (λ k. 2 * k) remainder_small,
  approaches_limit series_of remainder_of (λ n m some le. series_near n m le) (λ k. 2 * k) remainder_small,
)

-- a beat is the exponential series of the step divided by the series
pub beat_divided : (T : Values FullState → Values FullState) (n : ℕ) (f : Values FullState) (s : FullState)
    → beat_of T n f s *ℚ series_of n ≡ exponential_of T n f s
unfolding beat_of
beat_divided T n f s = quotient-mul _ (series_of n) (some_from_one (series_of n) (one_below_series n))

module _ (T : Values FullState → Values FullState) (t : IsMarkov T) (B : Fraction) (f : Values FullState) (small : (s : FullState) → f s ≤ℚ B) (n m : ℕ)
    (le : n ≤ m) (s : FullState) where
  further : n + (m - n) ≡ m
  further = omega arith

  pub exponentials_near : IsNear (B *ℚ remainder_of n) (exponential_of T n f s) (exponential_of T m f s)
  exponentials_near =
      let c : ℕ → Fraction = λ k. term k *ℚ times T k f s in
      let d : (k : ℕ) → c k ≤ℚ term k *ℚ B = λ k. mul-le-left (term k) _ _ (times_small T t.linear B (t.keeps B) f small k s) in
      let g : total_below (suc m) c ≡ total_below (suc n) c +ℚ later c n (m - n) = rw further at (sum-later c n (m - n)) in
      rw g (near_more (total_below (suc n) c) (later c n (m - n)) (B *ℚ remainder_of n)
      (le_trans _ _ _ (later_smaller c B d n (m - n)) (mul-le-left B _ _ (later_small n (m - n)))))

  pub beat_orders : IsNear (B *ℚ remainder_of n) (beat_of T n f s) (beat_of T m f s)
  beat_orders = rw further at (beats_near T t.linear B (t.keeps B) f small n (m - n) s)

  pub mean_orders : IsNear (B *ℚ remainder_of n) (mean_of T (suc n) f s) (mean_of T (suc m) f s)
  mean_orders = rw further at (means_near T t.linear B (t.keeps B) f small n (m - n) s)
