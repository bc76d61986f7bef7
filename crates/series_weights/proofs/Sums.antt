-- The sums of the weights.
use Rattle.std.proofs.Common.{◌≡◌, ℕ, zero, suc, ◌+◌, ◌-◌, ◌*◌, ◌/◌, ◌^◌, ◌<◌, ◌≤◌, refl, ap, arith, add-one, inl, inr}
use Rattle.std.proofs.lemmas.Bool.{cases_lt}
use Rattle.std.proofs.Math.Nat.{div-mul-le_self, lt-div-mul-add, div-le_self}
use Rattle.sil_fraction.specs.Sum.{sum_below}
use Rattle.sil_fraction.proofs.Sums.{sum-same, sum-add, sum-append, sum-first}
use Rattle.sil_model.specs.WeightTable.{first_weight, weight_of, mean_weight_of, missing_of}

pub weight_at : (k : ℕ) → 0 < k → weight_of k ≡ weight_of (k - 1) / k
unfolding weight_of
weight_at zero h = absurd (omega arith)
weight_at (suc k) h = let e : suc k - 1 ≡ k = omega arith in rw e refl

pub first_is : weight_of 0 ≡ first_weight
unfolding weight_of
first_is = refl

pub weight_falls : (k : ℕ) → 0 < k → k * weight_of k ≤ weight_of (k - 1)
weight_falls k h = rw (weight_at k h) (omega (arith, div-mul-le_self (weight_of (k - 1)) k))

-- the weights up to the greatest order fit in the whole
all_weights : sum_below 41 weight_of ≤ 2 ^ 48
unfolding sum_below weight_of
all_weights = omega arith

pub sum_weights_le : (n : ℕ) → n ≤ 41 → sum_below n weight_of ≤ 2 ^ 48
sum_weights_le n h =
    let e : n + (41 - n) ≡ 41 = omega arith in
    let s : sum_below 41 weight_of ≡ sum_below n weight_of + sum_below (41 - n) (λ k. weight_of (n + k)) = rw e at (sum-append n (41 - n) weight_of) in
    omega (arith, s, all_weights)

pub weight_le : (k : ℕ) → weight_of k ≤ 2 ^ 48
unfolding weight_of
weight_le zero = omega arith
weight_le (suc k) = omega (arith, weight_le k, div-le_self (weight_of k) (suc k))

-- the mean's weights, from the last one down
pub mean_last : (order k : ℕ) → order ≤ k → mean_weight_of order k ≡ 0
unfolding mean_weight_of sum_below
mean_last order k h = let e : order - k ≡ 0 = omega arith in rw e refl

pub mean_next : (order k : ℕ) → k < order → mean_weight_of order k ≡ weight_of (k + 1) + mean_weight_of order (k + 1)
unfolding mean_weight_of
mean_next order k h =
    let e : order - k ≡ suc (order - (k + 1)) = omega arith in
    let one : suc (k + 0) ≡ k + 1 = omega arith in
    let more : (i : ℕ) → suc (k + suc i) ≡ suc (k + 1 + i) = λ i. omega arith in
    rw (e, sum-first (order - (k + 1)) (λ i. weight_of (suc (k + i))), one) (ap (λ s. weight_of (k + 1) + s) (sum-same (order - (k + 1)) _ _ (λ i _. ap weight_of (more i))))

one_more : (k : ℕ) → sum_below (suc (k + 1)) weight_of ≡ sum_below (suc k) weight_of + weight_of (k + 1)
unfolding sum_below
one_more k = rw add-one refl

-- with the weights up to it, a mean's weight makes the weights up to the order
mean_and_rest : (order n : ℕ) → n ≤ order → sum_below (suc (order - n)) weight_of + mean_weight_of order (order - n) ≡ sum_below (suc order) weight_of
mean_and_rest order zero h = let e : order - 0 ≡ order = omega arith in rw (e, mean_last order order (omega arith)) (omega arith)
mean_and_rest order (suc n) h =
    let k : ℕ = order - suc n in
    let e : order - n ≡ k + 1 = omega arith in
    let b : sum_below (suc (k + 1)) weight_of + mean_weight_of order (k + 1) ≡ sum_below (suc order) weight_of = rw e at (mean_and_rest order n (omega arith)) in
    let s : sum_below (suc (k + 1)) weight_of ≡ sum_below (suc k) weight_of + weight_of (k + 1) = one_more k in
    omega (arith, b, s, mean_next order k (omega arith))

pub mean_le : (order k : ℕ) → order ≤ 40 → mean_weight_of order k ≤ 2 ^ 48
mean_le order k h = elim (cases_lt k order) [
  | inl g ↦
      let e : order - (order - k) ≡ k = omega arith in
      let b : sum_below (suc k) weight_of + mean_weight_of order k ≡ sum_below (suc order) weight_of = rw e at (mean_and_rest order (order - k) (omega arith)) in
      omega (arith, b, sum_weights_le (suc order) (omega arith))
  | inr g ↦ rw (mean_last order k g) (omega arith)
]

-- k times a weight is at least the weight before it, but for less than k
weight_keeps : (k : ℕ) → weight_of k ≤ suc k * weight_of (suc k) + k
unfolding weight_of
weight_keeps k = omega (arith, lt-div-mul-add {a = weight_of k} {b = suc k} (omega arith))

mean-suc : (order k : ℕ) → k ≤ order → mean_weight_of (suc order) k ≡ mean_weight_of order k + weight_of (suc order)
unfolding mean_weight_of sum_below
mean-suc order k h =
    let e : suc order - k ≡ suc (order - k) = omega arith in
    let g : suc (k + (order - k)) ≡ suc order = omega arith in
    rw e (ap (λ j. sum_below (order - k) (λ i. weight_of (suc (k + i))) + weight_of j) g)

sum-constant : (n c : ℕ) → sum_below n (λ k. c) ≡ n * c
unfolding sum_below
sum-constant zero c = omega arith
sum-constant (suc n) c = omega (arith, sum-constant n c)

-- the sum of the mean's weights: each weight as often as its number of steps
means_sum : (order : ℕ) → sum_below order (mean_weight_of order) ≡ sum_below (suc order) (λ k. k * weight_of k)
unfolding sum_below
means_sum zero = omega arith
means_sum (suc order) =
    let a : sum_below (suc order) (mean_weight_of (suc order)) ≡ sum_below (suc order) (λ k. mean_weight_of order k + weight_of (suc order)) = sum-same (suc order) _ _ (λ k h. mean-suc order k (omega arith)) in
    let b : sum_below (suc order) (λ k. mean_weight_of order k + weight_of (suc order)) ≡ sum_below (suc order) (mean_weight_of order) + sum_below (suc order) (λ k. weight_of (suc order)) = sum-add (suc order) _ _ in
    omega (arith, a, b, sum-constant (suc order) (weight_of (suc order)), means_sum order, mean_last order order (omega arith))

nearly_all : (n : ℕ) → sum_below n weight_of ≤ sum_below (suc n) (λ k. k * weight_of k) + n * n
unfolding sum_below
nearly_all zero = omega arith
nearly_all (suc n) = omega (arith, nearly_all n, weight_keeps n)

pub missing_rest : (order : ℕ) → order ≤ 40 → missing_of order + sum_below order weight_of ≡ 2 ^ 48
unfolding missing_of
missing_rest order h = omega (arith, sum_weights_le order (omega arith))

pub means_are_many : (order : ℕ) → order ≤ 40 → 2 ^ 48 ≤ sum_below order (mean_weight_of order) + missing_of order + order * order
means_are_many order h = omega (arith, missing_rest order h, means_sum order, nearly_all order)

first_zero : weight_of 17 ≡ 0
unfolding weight_of
first_zero = refl

zero_from : (j : ℕ) → weight_of (17 + j) ≡ 0
unfolding weight_of
zero_from zero = first_zero
zero_from (suc j) =
    let e : 17 + suc j ≡ suc (17 + j) = omega arith in
    rw (e, zero_from j) (omega arith)

-- the weights of more than 16 steps are 0
pub weight_zero : (k : ℕ) → 17 ≤ k → weight_of k ≡ 0
weight_zero k h = let e : 17 + (k - 17) ≡ k = omega arith in rw e at (zero_from (k - 17))

falling_sum : (n : ℕ) → sum_below (suc n) (λ k. k * weight_of k) ≤ sum_below n weight_of
unfolding sum_below
falling_sum zero = omega arith
falling_sum (suc n) = let e : suc n - 1 ≡ n = omega arith in omega (arith, falling_sum n, rw e at (weight_falls (suc n) (omega arith)))

-- the mean's weights fit in the whole
pub means_within : (order n : ℕ) → order ≤ 40 → n ≤ order → sum_below n (mean_weight_of order) ≤ 2 ^ 48
means_within order n h g =
    let e : n + (order - n) ≡ order = omega arith in
    let s : sum_below order (mean_weight_of order) ≡ sum_below n (mean_weight_of order) + sum_below (order - n) (λ k. mean_weight_of order (n + k)) = rw e at (sum-append n (order - n) (mean_weight_of order)) in
    omega (arith, s, means_sum order, falling_sum order, sum_weights_le order (omega arith))
