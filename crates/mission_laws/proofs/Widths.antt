-- How wide the ends are, by what was lost.
use Rattle.std.proofs.Common.{◌≡◌, ℕ, ◌+◌, ◌-◌, ◌*◌, ◌/◌, ◌^◌, ◌<◌, ◌≤◌, List, length, sum, ap, ◌∙◌, arith}
use Rattle.std.proofs.Math.Nat.{mul-le-mul_left, mul-le-mul_right, le_of_mul-le-mul_left, lt_of_mul-lt-mul_right, div-mul-le_self, lt-div-mul-add}
use Rattle.sil_model.specs.Budget.{budget_of, pfd_width_of, pfh_width_of, failure_rate_of, test_hour_count_of}
use Rattle.sil_model.specs.Calendar.{ceiling, phases_of, test_hours_of}
use Rattle.sil_model.specs.LoopValue.{LoopValue, IsValid}
use Rattle.sil_model.specs.Sizes.{states_of}
use Rattle.vector_laws.specs.Laws.{AreFloors}
use Rattle.vector_laws.proofs.Floors.{floor-most, floor-least}
use Rattle.mission_laws.specs.Losses.{lost_in_all, HasLostInAll}
use Rattle.mission_laws.specs.Missions.{AreMeans, pfd_lower, pfd_upper, pfh_lower, pfh_upper}

floor-le : (n d m : ℕ) → 0 < d → m * d ≤ n → m ≤ n / d
floor-le n d m p h = omega (arith, lt_of_mul-lt-mul_right d {m = m} {n = n / d + 1} (omega (arith, lt-div-mul-add {a = n} {b = d} p)))

ceiling-mul-lt : (n d : ℕ) → 0 < d → ceiling n d * d < n + d
ceiling-mul-lt n d p = omega (arith, div-mul-le_self (n + (d - 1)) d)

-- a ceiling is at most two above the floors of two parts that come to no less
apart : (n a b d : ℕ) → 0 < d → n ≤ a + b → ceiling n d ≤ a / d + (b / d + 2)
apart n a b d p h =
    omega (
      arith,
      lt_of_mul-lt-mul_right d {m = ceiling n d} {n = a / d + b / d + 3}
          (omega (arith, ceiling-mul-lt n d p, h, lt-div-mul-add {a = a} {b = d} p, lt-div-mul-add {a = b} {b = d} p)),
    )

floor-le-floor : (m n d : ℕ) → 0 < d → m ≤ n → m / d ≤ n / d
floor-le-floor m n d p h = floor-le n d (m / d) p (omega (arith, div-mul-le_self m d))

module _ (l : LoopValue) (valid : IsValid l) (order : ℕ) (dwell means : List ℕ) (least most : ℕ)
    (lost : HasLostInAll l order dwell least most) (shared : AreMeans l.mission dwell means) (size : length dwell ≡ states_of l.subsystems) where
  lasts : 0 < l.mission
  lasts = omega (arith, valid.mission.above)

  floors : AreFloors l.mission dwell means
  floors = record { same_length = shared.as_many; floor = λ k h. shared.floors k (rw shared.as_many at h) }

  pub means-mass : sum means ≤ 2 ^ 48
  means-mass = le_of_mul-le-mul_left {k = l.mission} (omega (arith, floor-most l.mission lasts dwell means floors, lost.dwell_mass)) lasts

  -- what the means lack
  in_hours : (m P s d x ph S len : ℕ) → m * P ≤ d + m * x + ph * S → d ≤ m * s + m * len → len ≡ S → 0 < m → m * P ≤ m * (s + (x + ph * S + S))
  in_hours m P s d x ph S len h g e p = omega (arith, h, g, mul-le-mul_right (ph * S) p, ap (λ k. m * k) e)

  pub means-lack : 2 ^ 48 ≤ sum means + budget_of l order
  unfolding budget_of lost_in_all
  means-lack =
      let some : 2 ^ 48 ≤ sum means + (lost_in_all l order + length (phases_of l) * states_of l.subsystems + states_of l.subsystems) =
      le_of_mul-le-mul_left {k = l.mission} (in_hours l.mission (2 ^ 48) (sum means) (sum dwell) (lost_in_all l order) (length (phases_of l)) (states_of l.subsystems) (length means)
      lost.dwell_lack (floor-least l.mission lasts dwell means floors) (shared.as_many ∙ size) lasts) lasts in
      omega (arith, some)

  -- PFDavg
  module _ (down up : ℕ) (all : down + up ≡ sum means) where
    pub pfd-width : pfd_upper up ≤ pfd_lower down + pfd_width_of l order
    unfolding pfd_width_of
    pfd-width = apart ((2 ^ 48 - up) * 10 ^ 18) (down * 10 ^ 18) (budget_of l order * 10 ^ 18) (2 ^ 48) (omega arith) (omega (arith, means-lack, all))

  -- PFH
  module _ (entries lack : ℕ) (is_lack : sum means + lack ≡ 2 ^ 48) where
    abbrev rate : ℕ
    rate = failure_rate_of l.subsystems

    -- what may be lost at the tests, in 10^-18
    abbrev at_tests : ℕ
    at_tests = 10 ^ 18 * (length (test_hours_of l) * budget_of l order)

    lost-le-budget : lost_in_all l order ≤ budget_of l order
    unfolding budget_of lost_in_all
    lost-le-budget = omega arith

    passed-width : ceiling (10 ^ 18 * most) l.mission ≤ 10 ^ 18 * least / l.mission + (at_tests / l.mission + 2)
    passed-width =
        let more : most ≤ least + length (test_hours_of l) * budget_of l order = omega (arith, lost.width, mul-le-mul_left (length (test_hours_of l)) lost-le-budget) in
        apart (10 ^ 18 * most) (10 ^ 18 * least) (10 ^ 18 * (length (test_hours_of l) * budget_of l order)) l.mission lasts (omega (arith, more))

    abbrev wide : ℕ
    wide = rate * budget_of l order + at_tests / l.mission + 2

    lack-le : rate * lack ≤ rate * budget_of l order
    lack-le = mul-le-mul_left rate (omega (arith, means-lack, is_lack))

    abbrev all_wide : ℕ
    all_wide = budget_of l order * (rate * l.mission + length (test_hours_of l) * 10 ^ 18)

    in_one : (F W m x y : ℕ) → 0 < m → y ≡ F * W * m + x → F * W + x / m ≤ y / m
    in_one F W m x y p e = floor-le y m (F * W + x / m) p (omega (arith, e, div-mul-le_self x m))

    twice : (y m P : ℕ) → 0 < m → 0 < P → y / m / P ≤ y / (P * m)
    twice y m P p q =
        let some : 0 < P * m = omega (arith, mul-le-mul_left P p) in
        floor-le y (P * m) (y / m / P) some
        (omega (arith, mul-le-mul_right m (div-mul-le_self (y / m) P), div-mul-le_self y m))

    wide-le : (rate * budget_of l order + at_tests / l.mission + 2) / 2 ^ 48 ≤ all_wide / (2 ^ 48 * l.mission) + 1
    wide-le =
        let P : ℕ = 2 ^ 48 in
        let b : ℕ = rate * budget_of l order + at_tests / l.mission + 2 in
        let one : rate * budget_of l order + at_tests / l.mission ≤ all_wide / l.mission = in_one rate (budget_of l order) l.mission at_tests all_wide lasts (omega arith) in
        let y : ℕ = all_wide / l.mission in
        let two : b / 2 ^ 48 ≤ y / 2 ^ 48 + 1 =
        omega (
          arith,
          lt_of_mul-lt-mul_right (2 ^ 48) {m = b / 2 ^ 48} {n = y / 2 ^ 48 + 2}
              (omega (arith, one, div-mul-le_self b (2 ^ 48), lt-div-mul-add {a = y} {b = 2 ^ 48} (omega arith))),
        ) in
        omega (arith, two, twice all_wide l.mission (2 ^ 48) lasts (omega arith))

    pub pfh-width : pfh_upper l.mission entries rate lack most ≤ pfh_lower l.mission entries least + pfh_width_of l order
    unfolding pfh_width_of test_hour_count_of
    pfh-width =
        omega (
          arith,
          wide-le,
          apart (entries + rate * lack + ceiling (10 ^ 18 * most) l.mission) (entries + 10 ^ 18 * least / l.mission)
              (rate * budget_of l order + at_tests / l.mission + 2) (2 ^ 48) (omega arith) (omega (arith, passed-width, lack-le)),
        )
