-- Floors and ceilings of quotients: as numbers, and as bounds of fractions.
use Rattle.std.proofs.Common.{◌≡◌, ℕ, ◌+◌, ◌-◌, ◌*◌, ◌/◌, ◌%◌, ◌<◌, ◌≤◌, arith, ap, ◌∙◌, inl, inr}
use Rattle.std.specs.Int.{div_ceil}
use Rattle.std.proofs.Math.Nat.{div-mul-le_self, lt-div-mul-add, div-add-mod, lt_of_mul-lt-mul_right, le_of_mul-le-mul_right}
use Rattle.std.proofs.lemmas.Bool.{cases_lt}
use Rattle.sil_model.specs.Calendar.{ceiling}
use Rattle.sil_fraction.specs.Fraction.{◌+ℚ◌, ◌*ℚ◌, ◌≤ℚ◌, inverse, whole, ratio}
use Rattle.sil_fraction.specs.Ratio.{one_positive}
use Rattle.sil_fraction.proofs.Laws.{whole-mul, whole-add, whole-le, whole-div, whole-ratio, ratio-le-ratio, ratio-add, mul_assoc, mul_comm}

-- a number n divided by d
module _ (n d : ℕ) (p : 0 < d) where
  -- the floor times d is at most n, and less than d below it
  pub floor-mul-le : n / d * d ≤ n
  floor-mul-le = div-mul-le_self n d

  pub lt-floor-mul : n < n / d * d + d
  lt-floor-mul = lt-div-mul-add p

  -- the ceiling times d is at least n, and less than d above it
  pub le-ceiling-mul : n ≤ ceiling n d * d
  le-ceiling-mul = omega (arith, lt-div-mul-add {a = n + (d - 1)} {b = d} p)

  pub ceiling-mul-lt : ceiling n d * d < n + d
  ceiling-mul-lt = omega (arith, div-mul-le_self (n + (d - 1)) d)

  -- every other number with these bounds is the floor, or the ceiling
  pub le-floor : (m : ℕ) → m * d ≤ n → m ≤ n / d
  le-floor m h = omega (arith, lt_of_mul-lt-mul_right d {m = m} {n = n / d + 1} (omega (arith, lt-floor-mul)))

  pub ceiling-le : (m : ℕ) → n ≤ m * d → ceiling n d ≤ m
  ceiling-le m h = omega (arith, lt_of_mul-lt-mul_right d {m = ceiling n d} {n = m + 1} (omega (arith, ceiling-mul-lt)))

  pub floor-le-ceiling : n / d ≤ ceiling n d
  floor-le-ceiling = le_of_mul-le-mul_right {k = d} (omega (arith, floor-mul-le, le-ceiling-mul)) p

  pub ceiling-le-floor : ceiling n d ≤ n / d + 1
  ceiling-le-floor = ceiling-le (n / d + 1) (omega (arith, lt-floor-mul))

  -- the ceiling of Rust
  pub div_ceil-ceiling : div_ceil n d ≡ ceiling n d
  div_ceil-ceiling = elim (cases_lt 0 (n % d)) [
    | inl g ↦
        let above : n / d < ceiling n d = lt_of_mul-lt-mul_right d {m = n / d} {n = ceiling n d} (omega (arith, div-add-mod n d, le-ceiling-mul)) in
        omega (arith, ceiling-le-floor)
    | inr g ↦
        let below : ceiling n d ≤ n / d = ceiling-le (n / d) (omega (arith, div-add-mod n d)) in
        omega (arith, floor-le-ceiling)
  ]

-- floors and ceilings keep the order
pub floor-le-floor : (m n d : ℕ) → 0 < d → m ≤ n → m / d ≤ n / d
floor-le-floor m n d p h = le-floor n d p (m / d) (omega (arith, floor-mul-le m d p))

pub ceiling-le-ceiling : (m n d : ℕ) → 0 < d → m ≤ n → ceiling m d ≤ ceiling n d
ceiling-le-ceiling m n d p h = ceiling-le m d p (ceiling n d) (omega (arith, le-ceiling-mul n d p))

-- a fraction lies between the floor and the ceiling, each less than 1 away
module _ (n d : ℕ) (p : 0 < d) where
  pub floor-le-ratio : whole (n / d) ≤ℚ ratio n d
  floor-le-ratio = whole-div n d p

  pub ratio-le-floor : ratio n d ≤ℚ whole (n / d + 1)
  ratio-le-floor = rw (whole-ratio (n / d + 1)) (ratio-le-ratio n d (n / d + 1) 1 p one_positive (omega (arith, lt-floor-mul n d p)))

  pub ratio-le-ceiling : ratio n d ≤ℚ whole (ceiling n d)
  ratio-le-ceiling = rw (whole-ratio (ceiling n d)) (ratio-le-ratio n d (ceiling n d) 1 p one_positive (omega (arith, le-ceiling-mul n d p)))

  pub ceiling-le-ratio : whole (ceiling n d) ≤ℚ ratio n d +ℚ whole 1
  ceiling-le-ratio =
      let e : ratio n d +ℚ whole 1 ≡ ratio (n * 1 + 1 * d) (d * 1) = ap (λ x. ratio n d +ℚ x) (whole-ratio 1) ∙ ratio-add n d 1 1 p one_positive in
      rw (e, whole-ratio (ceiling n d))
      (ratio-le-ratio (ceiling n d) 1 (n * 1 + 1 * d) (d * 1) one_positive (omega arith) (omega (arith, ceiling-mul-lt n d p)))

-- the same in units of which u are 1
module _ (n d u : ℕ) (p : 0 < d) where
  pub ratio-scaled : ratio (n * u) d ≡ ratio n d *ℚ whole u
  ratio-scaled =
      cc (whole-mul n u, mul_assoc (whole n) (whole u) (inverse (whole d)), mul_comm (whole u) (inverse (whole d)), mul_assoc (whole n) (inverse (whole d)) (whole u))

  pub down-le-ratio : whole (n * u / d) ≤ℚ ratio n d *ℚ whole u
  down-le-ratio = rw (← ratio-scaled) (floor-le-ratio (n * u) d p)

  pub ratio-le-down : ratio n d *ℚ whole u ≤ℚ whole (n * u / d + 1)
  ratio-le-down = rw (← ratio-scaled) (ratio-le-floor (n * u) d p)

  pub ratio-le-up : ratio n d *ℚ whole u ≤ℚ whole (ceiling (n * u) d)
  ratio-le-up = rw (← ratio-scaled) (ratio-le-ceiling (n * u) d p)

  pub up-le-ratio : whole (ceiling (n * u) d) ≤ℚ ratio n d *ℚ whole u +ℚ whole 1
  up-le-ratio = rw (← ratio-scaled) (ceiling-le-ratio (n * u) d p)

-- a sum x of products, divided by a unit u: the rounded sum times u is within u of x
module _ (x u : ℕ) (p : 0 < u) where
  pub down-le-sum : whole (x / u) *ℚ whole u ≤ℚ whole x
  down-le-sum = rw (← whole-mul (x / u) u) (whole-le _ _ (floor-mul-le x u p))

  pub sum-le-down : whole x ≤ℚ whole (x / u) *ℚ whole u +ℚ whole u
  sum-le-down = rw (← whole-mul (x / u) u, ← whole-add (x / u * u) u) (whole-le _ _ (omega (arith, lt-floor-mul x u p)))

  pub sum-le-up : whole x ≤ℚ whole (ceiling x u) *ℚ whole u
  sum-le-up = rw (← whole-mul (ceiling x u) u) (whole-le _ _ (le-ceiling-mul x u p))

  pub up-le-sum : whole (ceiling x u) *ℚ whole u ≤ℚ whole x +ℚ whole u
  up-le-sum = rw (← whole-mul (ceiling x u) u, ← whole-add x u) (whole-le _ _ (omega (arith, ceiling-mul-lt x u p)))
