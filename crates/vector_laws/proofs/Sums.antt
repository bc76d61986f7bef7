-- Sums of numbers by their places, and of the sums above each of them.
use Rattle.std.proofs.Common.{◌≡◌, ℕ, zero, suc, ◌+◌, ◌-◌, ◌*◌, ◌<◌, refl, ap, ◌∙◌, arith}
use Rattle.sil_fraction.specs.Sum.{sum_below}
use Rattle.sil_fraction.proofs.Sums.{sum-same, sum-add, sum-mul}

ones_of : (k : ℕ) → sum_below k (λ l. 1) ≡ k
unfolding sum_below
ones_of zero = refl
ones_of (suc k) = omega (arith, ones_of k)

-- the sums above each place, weighed by z: each number by the sum of z below its place
pub tails-weighed : (n : ℕ) (z x : ℕ → ℕ) → sum_below n (λ k. z k * sum_below (n - suc k) (λ i. x (suc (k + i)))) ≡ sum_below n (λ k. x k * sum_below k z)
unfolding sum_below
tails-weighed zero z x = refl
tails-weighed (suc n) z x =
    let tail : ℕ → ℕ = λ k. sum_below (n - suc k) (λ i. x (suc (k + i))) in
    let last : suc n - suc n ≡ 0 = omega arith in
    let none : sum_below (suc n - suc n) (λ i. x (suc (n + i))) ≡ 0 = rw last refl in
    let more : (k : ℕ) → k < n → z k * sum_below (suc n - suc k) (λ i. x (suc (k + i))) ≡ z k * tail k + x n * z k =
    λ k h. let e : suc n - suc k ≡ suc (n - suc k) = omega arith in let g : suc (k + (n - suc k)) ≡ n = omega arith in
    rw e (ap (λ j. z k * (tail k + x j)) g ∙ omega arith) in
    let all : sum_below n (λ k. z k * sum_below (suc n - suc k) (λ i. x (suc (k + i)))) ≡ sum_below n (λ k. z k * tail k + x n * z k) = sum-same n _ _ more in
    omega (arith, ap (λ s. z n * s) none, all, sum-add n (λ k. z k * tail k) (λ k. x n * z k), sum-mul n (x n) z, tails-weighed n z x)

-- the sums above each number sum to the numbers times their places
pub tails-sum : (n : ℕ) (x : ℕ → ℕ) → sum_below n (λ k. sum_below (n - suc k) (λ i. x (suc (k + i)))) ≡ sum_below n (λ k. k * x k)
tails-sum n x =
    sum-same n _ (λ k. 1 * sum_below (n - suc k) (λ i. x (suc (k + i)))) (λ k _. omega arith) ∙ tails-weighed n (λ k. 1) x
    ∙ sum-same n _ _ (λ k _. ap (λ s. x k * s) (ones_of k) ∙ omega arith)

-- products either way round
pub sum-turned : (n : ℕ) (x : ℕ → ℕ) → sum_below n (λ k. k * x k) ≡ sum_below n (λ k. x k * k)
sum-turned n x = sum-same n _ _ (λ k _. omega arith)
