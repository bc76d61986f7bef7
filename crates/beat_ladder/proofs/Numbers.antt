-- What the numbers of a square are bounded by.
use Rattle.std.proofs.Common.{◌≡◌, ℕ, suc, ◌+◌, ◌-◌, ◌*◌, ◌^◌, ◌≤◌, List, length, sum, arith}
use Rattle.std.proofs.Math.Nat.{mul-le-mul_left}
use Rattle.sil_fraction.specs.Sum.{sum_below}
use Rattle.sil_fraction.proofs.Sums.{sum-append, sum-le, sum-mul}
use Rattle.vector_laws.proofs.Masses.{place-le}
use Rattle.beat_ladder.specs.Powers.{square_at, at_place}
use Rattle.beat_ladder.proofs.Squares.{square-le}
use Rattle.beat_ladder.proofs.Lists.{sum-past}

-- some numbers are at most all of them
some-le : (xs : List ℕ) (n : ℕ) → sum_below n (at_place xs) ≤ sum xs
some-le xs n =
    let all : sum_below (n + length xs) (at_place xs) ≡ sum xs = sum-past xs (n + length xs) (omega arith) in
    omega (arith, sum-append n (length xs) (at_place xs))

pub square-small : (xs : List ℕ) (k : ℕ) → sum xs ≤ 2 ^ 48 → square_at (at_place xs) k ≤ 2 ^ 96
square-small xs k h =
    let a : square_at (at_place xs) k ≤ 2 ^ 48 * 2 ^ 48 =
    square-le (at_place xs) (2 ^ 48) (2 ^ 48) k (λ i. omega (arith, place-le xs i)) (omega (arith, some-le xs (suc k))) in
    omega (arith, a)

-- some of its products
pub part-small : (xs : List ℕ) (k n : ℕ) → sum xs ≤ 2 ^ 48 → sum_below n (λ j. at_place xs j * at_place xs (k - j)) ≤ 2 ^ 96
part-small xs k n h =
    let each : sum_below n (λ j. at_place xs j * at_place xs (k - j)) ≤ sum_below n (λ j. 2 ^ 48 * at_place xs j) =
    sum-le n _ _ (λ j _. let small : at_place xs (k - j) ≤ 2 ^ 48 = omega (arith, place-le xs (k - j)) in omega (arith, mul-le-mul_left (at_place xs j) small)) in
    omega (arith, each, sum-mul n (2 ^ 48) (at_place xs), some-le xs n)

-- one of them
pub product-small : (xs : List ℕ) (i j : ℕ) → sum xs ≤ 2 ^ 48 → at_place xs i * at_place xs j ≤ 2 ^ 96
product-small xs i j h =
    let one : at_place xs i ≤ 2 ^ 48 = omega (arith, place-le xs i) in
    let other : at_place xs j ≤ 2 ^ 48 = omega (arith, place-le xs j) in
    omega (arith, mul-le-mul_left (at_place xs i) other, one)
