-- Vectors that were made a little smaller.
use Rattle.std.proofs.Common.{◌≡◌, ◌⊎◌, ℕ, ◌+◌, ◌-◌, ◌*◌, ◌/◌, ◌^◌, ◌<◌, ◌≤◌, List, length, sum, slice_index, inl, inr, arith}
use Rattle.std.proofs.Math.Nat.{mul-le-mul, div-mul-le_self, lt-div-mul-add, le_of_mul-le-mul_right}
use Rattle.std.proofs.lemmas.Bool.{cases_lt}
use Rattle.sil_fraction.specs.Fraction.{◌≤ℚ◌}
use Rattle.sil_fraction.specs.Sum.{sum_below}
use Rattle.sil_fraction.proofs.Sums.{sum-le, sum-add, sum-mul}
use Rattle.sil_model.specs.Series.{Values}
use Rattle.vector_laws.specs.Vectors.{weigh}
use Rattle.vector_laws.proofs.Masses.{sum_of, sum-constant, sum-each-le}
use Rattle.vector_laws.proofs.Weighing.{weigh-each-le}
use Rattle.separate_laws.specs.Separate.{IsReduced}
use Rattle.separate_laws.specs.Separate as separate
use Rattle.phase_separate.specs.Passes.{IsLowered}

-- one number, less what is taken of it, in units of 1 / P
module _ (P : ℕ) (some : 0 < P) (a taken : ℕ) where
  -- nothing is left, or all that was taken is gone
  one_reduced : (less : ℕ) → less ≤ taken → ((a * P - taken) / P ≡ 0) ⊎ ((a * P - taken) / P * P + less ≤ a * P)
  one_reduced less h = elim (cases_lt (a * P) taken) [
    | inl short ↦ let none : a * P - taken ≡ 0 = omega arith in inl (rw none (omega arith))
    | inr long ↦ inr (omega (arith, div-mul-le_self (a * P - taken) P))
  ]

  one_most : (a * P - taken) / P ≤ a
  one_most = le_of_mul-le-mul_right {k = P} (omega (arith, div-mul-le_self (a * P - taken) P)) some

  one_least : a * P ≤ (a * P - taken) / P * P + taken + P
  one_least = omega (arith, lt-div-mul-add {a = a * P - taken} {b = P} some)

module _ (m lacked : ℕ) (a b out : List ℕ) (h : IsLowered m lacked a b out) where
  taken : ℕ → ℕ
  taken k = m * (slice_index a k + slice_index b k + lacked)

  number : (k : ℕ) → k < length a → slice_index out k ≡ (slice_index a k * 2 ^ 46 - taken k) / 2 ^ 46
  unfolding taken
  number = h.number

  -- it is reduced by any fewer beats, and by less that is lacked
  pub numbers_reduced : (n less : ℕ) → n ≤ m → less ≤ lacked → (k : ℕ) → k < length a
      → (slice_index out k ≡ 0) ⊎ (slice_index out k * 2 ^ 46 + n * (slice_index a k + slice_index b k + less) ≤ slice_index a k * 2 ^ 46)
  unfolding taken
  numbers_reduced n less fewer lacks_less k inside =
      rw (number k inside)
      (one_reduced (2 ^ 46) (omega arith) (slice_index a k) (taken k) (n * (slice_index a k + slice_index b k + less)) (mul-le-mul fewer (omega arith)))

  pub is_reduced : (n : ℕ) (c : ℕ → ℕ) (v : List ℕ) → n ≤ m → separate.lacked n c v a b ≤ lacked → IsReduced n c v a b out
  is_reduced n c v fewer lacks_less = record { size = h.size; numbers = numbers_reduced n (separate.lacked n c v a b) fewer lacks_less }

  -- no number is greater
  pub number_most : (k : ℕ) → k < length out → slice_index out k ≤ slice_index a k
  number_most k inside =
      let within : k < length a = omega (arith, h.size) in
      rw (number k within) (one_most (2 ^ 46) (omega arith) (slice_index a k) (taken k))

  pub lowered_most : sum out ≤ sum a
  lowered_most = sum-each-le out a h.size number_most

  pub lowered_weighs : (f : Values ℕ) → weigh out f ≤ℚ weigh a f
  lowered_weighs f = weigh-each-le out a f h.size number_most

  -- and not by much smaller
  pub lowered_least : length b ≡ length a
      → sum a * 2 ^ 46 ≤ sum out * 2 ^ 46 + m * (sum a + sum b + length a * lacked) + length a * 2 ^ 46
  unfolding taken
  lowered_least size =
      let P : ℕ = 2 ^ 46 in
      let n : ℕ = length a in
      let A : ℕ → ℕ = λ k. slice_index a k in
      let B : ℕ → ℕ = λ k. slice_index b k in
      let O : ℕ → ℕ = λ k. slice_index out k in
      let all : sum_below n (λ k. P * A k) ≤ sum_below n (λ k. P * O k + (m * (A k + B k + lacked) + P)) =
      sum-le n _ _ (λ k inside. omega (arith, one_least (2 ^ 46) (omega arith) (slice_index a k) (taken k), number k inside)) in
      let sum_a : sum a ≡ sum_below n A = sum_of a in
      let sum_b : sum b ≡ sum_below n B = rw size at (sum_of b) in
      let sum_out : sum out ≡ sum_below n O = rw h.size at (sum_of out) in
      let left : sum_below n (λ k. P * A k) ≡ P * sum_below n A = sum-mul n P A in
      let both : sum_below n (λ k. A k + B k) ≡ sum_below n A + sum_below n B = sum-add n A B in
      let three : sum_below n (λ k. A k + B k + lacked) ≡ sum_below n (λ k. A k + B k) + sum_below n (λ k. lacked) = sum-add n _ _ in
      let times_m : sum_below n (λ k. m * (A k + B k + lacked)) ≡ m * sum_below n (λ k. A k + B k + lacked) = sum-mul n m _ in
      let with_P : sum_below n (λ k. m * (A k + B k + lacked) + P) ≡ sum_below n (λ k. m * (A k + B k + lacked)) + sum_below n (λ k. P) = sum-add n _ _ in
      let right : sum_below n (λ k. P * O k + (m * (A k + B k + lacked) + P))
      ≡ sum_below n (λ k. P * O k) + sum_below n (λ k. m * (A k + B k + lacked) + P) = sum-add n _ _ in
      let outs : sum_below n (λ k. P * O k) ≡ P * sum_below n O = sum-mul n P O in
      let lacks : sum_below n (λ k. lacked) ≡ n * lacked = sum-constant n lacked in
      let units : sum_below n (λ k. P) ≡ n * P = sum-constant n P in
      let inner : sum_below n (λ k. A k + B k + lacked) ≡ sum a + sum b + n * lacked = omega arith in
      let inner_m : sum_below n (λ k. m * (A k + B k + lacked)) ≡ m * (sum a + sum b + n * lacked) = rw inner at times_m in
      omega arith
