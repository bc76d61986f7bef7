-- The ends of PFH are in order, and can be printed.
use Rattle.std.proofs.Common.{◌≡◌, ℕ, ◌+◌, ◌*◌, ◌/◌, ◌^◌, ◌<◌, ◌≤◌, List, length, sum, get_or, ap, arith}
use Rattle.std.proofs.Math.Nat.{mul-le-mul_left, mul-le-mul_right}
use Rattle.sil_fraction.specs.Sum.{sum_below}
use Rattle.sil_fraction.proofs.Sums.{sum-le, sum-mul}
use Rattle.sil_model.specs.Calendar.{ceiling}
use Rattle.interval_fixed.proofs.Rounding.{ceiling-le, ceiling-le-ceiling, floor-le-floor, floor-le-ceiling}
use Rattle.vector_laws.proofs.Masses.{sum_of}
use Rattle.loop_value.specs.Ends.{entries_of}

-- no rate is above the greatest
pub entries-most : (rates means : List ℕ) (greatest : ℕ) → ((i : ℕ) → get_or rates i 0 ≤ greatest) → entries_of rates means ≤ greatest * sum means
entries-most rates means greatest small =
    let each : sum_below (length means) (λ i. get_or means i 0 * get_or rates i 0) ≤ sum_below (length means) (λ i. greatest * get_or means i 0) =
    sum-le (length means) _ _ (λ i h. omega (arith, mul-le-mul_left (get_or means i 0) (small i))) in
    omega (arith, each, sum-mul (length means) greatest (λ i. get_or means i 0), ap (λ s. greatest * s) (sum_of means))

-- what has passed over the mission
pub passed-most : (most mission : ℕ) → 0 < mission → most ≤ mission * 2 ^ 48 → ceiling (10 ^ 18 * most) mission ≤ 10 ^ 18 * 2 ^ 48
passed-most most mission some few = ceiling-le (10 ^ 18 * most) mission some (10 ^ 18 * 2 ^ 48) (omega (arith, mul-le-mul_left (10 ^ 18) few))

module _ (E g lack s P : ℕ) (most : E ≤ g * s) (all : s + lack ≡ 2 ^ 48) (small : g ≤ 2 ^ 60) (few : P ≤ 10 ^ 18 * 2 ^ 48) where
  together : E + P + lack * g ≤ (2 ^ 60 + 10 ^ 18) * 2 ^ 48
  together = omega (arith, most, few, ap (λ x. g * x) all, mul-le-mul_right (2 ^ 48) small)

  pub printable : ceiling (E + P + lack * g) (2 ^ 48) < 10 ^ 19
  printable = omega (arith, ceiling-le (E + P + lack * g) (2 ^ 48) (omega arith) (2 ^ 60 + 10 ^ 18) together)

pub in_order : (E lo hi m r : ℕ) → 0 < m → lo ≤ hi → (E + 10 ^ 18 * lo / m) / 2 ^ 48 ≤ ceiling (E + ceiling (10 ^ 18 * hi) m + r) (2 ^ 48)
in_order E lo hi m r some h =
    let one : 10 ^ 18 * lo / m ≤ ceiling (10 ^ 18 * hi) m =
    omega (arith, floor-le-floor (10 ^ 18 * lo) (10 ^ 18 * hi) m some (mul-le-mul_left (10 ^ 18) h), floor-le-ceiling (10 ^ 18 * hi) m some) in
    let a : ℕ = E + 10 ^ 18 * lo / m in
    omega (
      arith,
      floor-le-ceiling (E + 10 ^ 18 * lo / m) (2 ^ 48) (omega arith),
      ceiling-le-ceiling (E + 10 ^ 18 * lo / m) (E + ceiling (10 ^ 18 * hi) m + r) (2 ^ 48) (omega arith) (omega (arith, one)),
    )
