-- Fractions rounded down and up to whole numbers.
use Rattle.std.specs.Prelude.{◌≡◌, ℕ, ◌+◌, ◌-◌, ◌*◌, ◌/◌, ◌<◌, ◌≤◌}
use Rattle.std.proofs.Common.{arith, sym}
use Rattle.std.proofs.Math.Nat.{mul-le-mul_right, le_of_mul-le-mul_right, div-mul-le_self, lt-div-mul-add}
use Rattle.std.proofs.lemmas.Nat.{le-div, div_below}
use native.Mathlib.Nat.{ℕ_set}
use mathlib.Core.Quot.{lift}
use Rattle.sil_fraction.specs.Ratio.{Ratio, Same}
use Rattle.sil_fraction.specs.Fraction.{Fraction}
use Rattle.sil_model.specs.Calendar.{ceiling}

-- quotients of equal value have one floor
pub floor-le : (m d n e : ℕ) → 0 < d → 0 < e → m * e ≡ n * d → m / d ≤ n / e
floor-le m d n e p q h =
    let most : m / d * d ≤ m = div-mul-le_self m d in
    let scaled : m / d * d * e ≤ m * e = mul-le-mul_right e most in
    let other : m / d * e * d ≤ n * d = omega (arith, scaled, h) in
    le-div (m / d) n e q (le_of_mul-le-mul_right {k = d} other p)

pub floor-same : (a b : Ratio) → Same a b → a.num / a.den ≡ b.num / b.den
floor-same a b h = omega (arith, floor-le a.num a.den b.num b.den a.positive b.positive h, floor-le b.num b.den a.num a.den b.positive a.positive (sym h))

-- and one ceiling
pub ceiling-le : (m d n e : ℕ) → 0 < d → 0 < e → m * e ≡ n * d → ceiling m d ≤ ceiling n e
ceiling-le m d n e p q h =
    let k : ℕ = ceiling n e in
    let most : n ≤ k * e = omega (arith, lt-div-mul-add {a = n + (e - 1)} {b = e} q) in
    let scaled : n * d ≤ k * e * d = mul-le-mul_right d most in
    let other : m * e ≤ k * d * e = omega (arith, scaled, h) in
    let small : m ≤ k * d = le_of_mul-le-mul_right {k = e} other q in
    omega (arith, div_below (m + (d - 1)) d (k + 1) p (omega (arith, small)))

pub ceiling-same : (a b : Ratio) → Same a b → ceiling a.num a.den ≡ ceiling b.num b.den
ceiling-same a b h = omega (arith, ceiling-le a.num a.den b.num b.den a.positive b.positive h, ceiling-le b.num b.den a.num a.den b.positive a.positive (sym h))

-- the greatest whole number that is at most x
unfoldable pub floor_of : Fraction → ℕ
unfolding Fraction
floor_of x = lift {r = Same} ℕ_set (λ a. a.num / a.den) floor-same x

-- the least whole number that is at least x
unfoldable pub ceiling_of : Fraction → ℕ
unfolding Fraction
ceiling_of x = lift {r = Same} ℕ_set (λ a. ceiling a.num a.den) ceiling-same x
