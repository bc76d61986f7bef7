-- A row of whole numbers times a matrix, rounded down: the sum of what comes out.
use Rattle.std.proofs.Common.{◌≡◌, ℕ, zero, suc, ◌+◌, ◌*◌, ◌/◌, ◌^◌, ◌<◌, ◌≤◌, refl, sym, ap, ◌∙◌, arith, inl, inr}
use Rattle.std.proofs.Math.Nat.{div-mul-le_self, lt-div-mul-add, mul-le-mul_left, mul-le-mul_right, le_of_mul-le-mul_right, pow-suc}
use Rattle.std.proofs.lemmas.Nat.{mul-le}
use Rattle.std.proofs.lemmas.Bool.{cases_lt}
use Rattle.sil_fraction.specs.Sum.{sum_below}
use Rattle.vector_laws.proofs.Masses.{sum-constant}
use Rattle.sil_fraction.proofs.Sums.{sum-le, sum-same, sum-add, sum-mul, sum-next}
use Rattle.dense_power.specs.declared.dense.TheConstants.{MOST_ROWS}

-- one term of a sum is at most the sum
pub term-le-sum : (n k : ℕ) (f : ℕ → ℕ) → k < n → f k ≤ sum_below n f
unfolding sum_below
term-le-sum zero k f h = omega arith
term-le-sum (suc n) k f h = elim (cases_lt k n) [
  | inl g ↦ omega (arith, term-le-sum n k f g)
  | inr g ↦ let e : k ≡ n = omega arith in rw e (omega arith)
]

-- a double sum either way round
pub sum-swap : (m n : ℕ) (f : ℕ → ℕ → ℕ) → sum_below m (λ i. sum_below n (f i)) ≡ sum_below n (λ k. sum_below m (λ i. f i k))
unfolding sum_below
sum-swap zero n f = sym (none n)
  where
    none : (n : ℕ) → sum_below n (λ k. 0) ≡ 0
    none zero = refl
    none (suc n) = omega (arith, none n)
sum-swap (suc m) n f = ap (λ s. s + sum_below n (f m)) (sum-swap m n f) ∙ sym (sum-add n (λ k. sum_below m (λ i. f i k)) (f m))

-- a row v times a matrix b of so many columns, in units of which P are 1: each sum of products is rounded down
module _ (n P : ℕ) (some : 0 < P) (v : ℕ → ℕ) (b : ℕ → ℕ → ℕ) where
  -- the sum of the products for column j
  abbrev pub product : ℕ → ℕ
  product j = sum_below n (λ k. v k * b k j)

  abbrev pub rounded : ℕ → ℕ
  rounded j = product j / P

  -- all products together: each number of the row times the sum of its row of b
  all_products : sum_below n product ≡ sum_below n (λ k. v k * sum_below n (b k))
  all_products = sum-swap n n (λ j k. v k * b k j) ∙ sum-same n _ _ (λ k h. sum-mul n (v k) (b k))

  rounded_up_to : sum_below n rounded * P ≤ sum_below n product
  rounded_up_to =
      let e : P * sum_below n rounded ≡ sum_below n (λ j. P * rounded j) = sym (sum-mul n P rounded) in
      let each : sum_below n (λ j. P * rounded j) ≤ sum_below n product = sum-le n _ _ (λ j h. omega (arith, div-mul-le_self (product j) P)) in
      omega (arith, e, each)

  rounded_down_by : sum_below n product ≤ (sum_below n rounded + n) * P
  rounded_down_by =
      let e : P * sum_below n rounded ≡ sum_below n (λ j. P * rounded j) = sym (sum-mul n P rounded) in
      let g : sum_below n (λ j. P * rounded j + P) ≡ sum_below n (λ j. P * rounded j) + sum_below n (λ j. P) = sum-add n (λ j. P * rounded j) (λ j. P) in
      let each : sum_below n product ≤ sum_below n (λ j. P * rounded j + P) =
      sum-le n _ _ (λ j h. omega (arith, lt-div-mul-add {a = product j} {b = P} some)) in
      omega (arith, e, g, each, sum-constant n P)

  -- where the row comes to at most P, and each row of b to at most B, what comes out is at most B
  pub sum-rounded-le : (B : ℕ) → sum_below n v ≤ P → ((k : ℕ) → k < n → sum_below n (b k) ≤ B) → sum_below n rounded ≤ B
  sum-rounded-le B mass rows =
      let each : sum_below n (λ k. v k * sum_below n (b k)) ≤ sum_below n (λ k. B * v k) =
      sum-le n _ _ (λ k h. omega (arith, mul-le-mul_right (v k) (rows k h))) in
      let e : sum_below n (λ k. B * v k) ≡ B * sum_below n v = sum-mul n B v in
      le_of_mul-le-mul_right {k = P} (omega (arith, rounded_up_to, all_products, each, e, mul-le-mul_right B mass)) some

  -- where each row of b comes to at most t times P, what comes out is at most t times the row
  pub sum-rounded-most : (t : ℕ) → ((k : ℕ) → k < n → sum_below n (b k) ≤ t * P) → sum_below n rounded ≤ t * sum_below n v
  sum-rounded-most t rows =
      let each : sum_below n (λ k. v k * sum_below n (b k)) ≤ sum_below n (λ k. (t * P) * v k) =
      sum-le n _ _ (λ k h. omega (arith, mul-le-mul_right (v k) (rows k h))) in
      let e : sum_below n (λ k. (t * P) * v k) ≡ (t * P) * sum_below n v = sum-mul n (t * P) v in
      le_of_mul-le-mul_right {k = P} (omega (arith, rounded_up_to, all_products, each, e)) some

  -- and where each is within D of it, what comes out lacks little of t times the row
  pub sum-rounded-least : (t D : ℕ) → sum_below n v ≤ P → ((k : ℕ) → k < n → t * P ≤ sum_below n (b k) + D)
      → t * sum_below n v ≤ sum_below n rounded + (n + D)
  sum-rounded-least t D mass near =
      let each : sum_below n (λ k. (t * P) * v k) ≤ sum_below n (λ k. v k * sum_below n (b k) + D * v k) =
      sum-le n _ _ (λ k h. omega (arith, mul-le-mul_right (v k) (near k h))) in
      let e : sum_below n (λ k. (t * P) * v k) ≡ (t * P) * sum_below n v = sum-mul n (t * P) v in
      let g : sum_below n (λ k. v k * sum_below n (b k) + D * v k) ≡ sum_below n (λ k. v k * sum_below n (b k)) + sum_below n (λ k. D * v k) = sum-add n _ _ in
      let f : sum_below n (λ k. D * v k) ≡ D * sum_below n v = sum-mul n D v in
      let scaled : (t * sum_below n v) * P ≤ (sum_below n rounded + n + D) * P =
      omega (arith, each, e, g, f, all_products, rounded_down_by, mul-le-mul_right D mass) in
      omega (arith, le_of_mul-le-mul_right {k = P} scaled some)

  -- where the row v is within L of P besides, it lacks little of t times P
  pub sum-rounded-ge : (t D L : ℕ) → sum_below n v ≤ P → P ≤ sum_below n v + L → ((k : ℕ) → k < n → t * P ≤ sum_below n (b k) + D)
      → t * P ≤ sum_below n rounded + (n + D + t * L)
  sum-rounded-ge t D L mass near rows = omega (arith, sum-rounded-least t D mass rows, mul-le-mul_left t near)

-- two sums of products whose first factors are the same
pub sum-same_row : (m n : ℕ) (x y z : ℕ → ℕ) → m ≡ n → ((k : ℕ) → k < n → x k ≡ y k) → sum_below m (λ k. x k * z k) ≡ sum_below n (λ k. y k * z k)
sum-same_row m n x y z e h = rw e (sum-same n _ _ (λ k p. ap (λ s. s * z k) (h k p)))

-- and two whose second factors are
pub sum-same_column : (m n : ℕ) (x y z : ℕ → ℕ) → m ≡ n → ((k : ℕ) → k < n → y k ≡ z k) → sum_below m (λ k. x k * y k) ≡ sum_below n (λ k. x k * z k)
sum-same_column m n x y z e h = rw e (sum-same n _ _ (λ k p. ap (λ s. x k * s) (h k p)))

-- a sum with one term more
pub sum_more : (s t x k : ℕ) (f : ℕ → ℕ) → s ≡ sum_below k f → t ≡ s + x → x ≡ f k → t ≡ sum_below (k + 1) f
sum_more s t x k f h e g = rw sum-next (omega (arith, h, e, g))

-- n squares are a cube
pub mul-square : (n : ℕ) → n * n ^ 2 ≡ n ^ 3
mul-square n = omega (arith, pow-suc n 2)

-- a sum of no more products than a matrix has rows, of factors that are not too great, rounded down
pub product_small : (n : ℕ) (x y : ℕ → ℕ) → n ≤ MOST_ROWS → ((k : ℕ) → k < n → x k ≤ 2 ^ 48) → ((k : ℕ) → k < n → y k ≤ 2 ^ 68)
    → sum_below n (λ k. x k * y k) / 2 ^ 48 ≤ 2 ^ 74
product_small n x y few h g =
    let each : sum_below n (λ k. x k * y k) ≤ sum_below n (λ k. 2 ^ 48 * 2 ^ 68) = sum-le n _ _ (λ k p. mul-le (x k) (y k) (2 ^ 48) (2 ^ 68) (h k p) (g k p)) in
    omega (arith, each, sum-constant n (2 ^ 48 * 2 ^ 68), div-mul-le_self (sum_below n (λ k. x k * y k)) (2 ^ 48))

-- the same where the second factors are at most 1 too
pub product_within : (n : ℕ) (x y : ℕ → ℕ) → n ≤ MOST_ROWS → ((k : ℕ) → k < n → x k ≤ 2 ^ 48) → ((k : ℕ) → k < n → y k ≤ 2 ^ 48)
    → sum_below n (λ k. x k * y k) / 2 ^ 48 ≤ 2 ^ 54
product_within n x y few h g =
    let each : sum_below n (λ k. x k * y k) ≤ sum_below n (λ k. 2 ^ 48 * 2 ^ 48) = sum-le n _ _ (λ k p. mul-le (x k) (y k) (2 ^ 48) (2 ^ 48) (h k p) (g k p)) in
    omega (arith, each, sum-constant n (2 ^ 48 * 2 ^ 48), div-mul-le_self (sum_below n (λ k. x k * y k)) (2 ^ 48))
