-- A group's tests of a vector, from the exact sums to their floors.
use Rattle.std.proofs.Common.{◌≡◌, ℕ, suc, ◌+◌, ◌*◌, ◌^◌, ◌<◌, ◌≤◌, List, length, get_or, ap, ◌∙◌, arith, sum}
use Rattle.std.proofs.Math.Nat.{mul-le-mul_left, le_of_mul-le-mul_right}
use mathlib.Core.Path.{fun_ext}
use Rattle.sil_fraction.specs.Fraction.{Fraction, ◌*ℚ◌, ◌≤ℚ◌, whole}
use Rattle.sil_fraction.specs.Sum.{total_below, sum_below}
use Rattle.sil_fraction.proofs.Laws.{le_trans, mul_comm}
use Rattle.sil_fraction.proofs.Sums.{le_from_scaled, sum-le, sum-add, sum-mul}
use Rattle.sil_model.specs.Series.{Values}
use Rattle.vector_laws.specs.Laws.{AreFloors}
use Rattle.vector_laws.specs.Vectors.{weigh}
use Rattle.vector_laws.proofs.Floors.{weigh-floor, floor-most, floor-least}
use Rattle.vector_laws.proofs.Masses.{sum_of}
use Rattle.vector_laws.proofs.Weighing.{weigh-le, weigh-mul}
use Rattle.test_matrix.specs.Rows.{row_at, IsBelow, IsWithinOne, LacksAtMost}
use Rattle.test_matrix.specs.Spread.{walk, spread_sum, spread_mass, group_list}

-- the rows make nothing
pub mass_within : (rows : List (List ℕ)) (works v : List ℕ) → ((i : ℕ) → i < length v → get_or works i 0 < 9) → IsWithinOne rows
    → spread_mass rows works (length v) v ≤ 2 ^ 48 * sum v
unfolding spread_mass
mass_within rows works v least most =
    let each : sum_below (length v) (λ i. get_or v i 0 * sum_below (suc (get_or works i 0)) (row_at rows (get_or works i 0))) ≤ sum_below (length v) (λ i. 2 ^ 48 * get_or v i 0) =
    sum-le (length v) _ _ (λ i h. omega (arith, mul-le-mul_left (get_or v i 0) (most (get_or works i 0) (least i h)))) in
    omega (arith, each, ap (λ n. 2 ^ 48 * n) (sum_of v), sum-mul (length v) (2 ^ 48) (λ i. get_or v i 0))

module _ (rows : List (List ℕ)) (works settled failed v sums after : List ℕ)
    (least : (i : ℕ) → i < length v → get_or works i 0 < 9)
    (same : length sums ≡ length v) (floors : AreFloors (2 ^ 48) sums after) where
  -- what the rows bring of f, in units of 2^-48
  abbrev row_list : Values ℕ → Values ℕ
  row_list f i =
      total_below (suc (get_or works i 0)) (λ k. whole (row_at rows (get_or works i 0) k) *ℚ f (walk failed k (get_or settled i 0)))

  module _ (r : Fraction) (small : IsBelow rows r) (f : Values ℕ) where
    abbrev expected : Values ℕ
    expected = group_list r works settled failed f

    scaled : weigh v (λ i. expected i *ℚ whole (2 ^ 48)) ≡ weigh v expected *ℚ whole (2 ^ 48)
    scaled = ap (weigh v) (fun_ext (λ i. mul_comm _ _)) ∙ weigh-mul v (whole (2 ^ 48)) expected ∙ mul_comm _ _

    row_list-le : (i : ℕ) → i < length v → row_list f i ≤ℚ expected i *ℚ whole (2 ^ 48)
    unfolding group_list
    row_list-le i h = small (get_or works i 0) (least i h) (λ k. f (walk failed k (get_or settled i 0)))

    -- the tests are sound
    pub encloses : weigh sums f ≡ spread_sum rows works (length v) settled failed v f → weigh after f ≤ℚ weigh v expected
    unfolding spread_sum weigh
    encloses spread =
        let sums_are : weigh sums f ≡ weigh v (row_list f) = spread in
        le_from_scaled (2 ^ 48) _ _ (omega arith)
        (le_trans _ _ _ (weigh-floor (2 ^ 48) (omega arith) sums after floors f)
        (rw (sums_are, ← scaled) (weigh-le v (row_list f) (λ i. expected i *ℚ whole (2 ^ 48)) row_list-le)))

  module _ (all : sum sums ≡ spread_mass rows works (length v) v) where
    abbrev row_mass : ℕ → ℕ
    row_mass i = sum_below (suc (get_or works i 0)) (row_at rows (get_or works i 0))

    all_below : sum sums ≡ sum_below (length v) (λ i. get_or v i 0 * row_mass i)
    unfolding spread_mass
    all_below = all

    -- what they lose where the rows lack at most so much
    pub loses : (lack : ℕ) → LacksAtMost lack rows → 2 ^ 48 * sum v ≤ 2 ^ 48 * sum after + lack * sum v + length v * 2 ^ 48
    loses lack enough =
        let each : sum_below (length v) (λ i. 2 ^ 48 * get_or v i 0) ≤ sum_below (length v) (λ i. get_or v i 0 * row_mass i + lack * get_or v i 0) =
        sum-le (length v) _ _ (λ i h. omega (arith, mul-le-mul_left (get_or v i 0) (enough (get_or works i 0) (least i h)))) in
        let left : sum sums ≤ 2 ^ 48 * sum after + 2 ^ 48 * length after = floor-least (2 ^ 48) (omega arith) sums after floors in
        omega (
          arith,
          each,
          left,
          floors.same_length,
          same,
          all_below,
          ap (λ n. 2 ^ 48 * n) (sum_of v),
          ap (λ n. lack * n) (sum_of v),
          sum-mul (length v) (2 ^ 48) (λ i. get_or v i 0),
          sum-add (length v) (λ i. get_or v i 0 * row_mass i) (λ i. lack * get_or v i 0),
          sum-mul (length v) lack (λ i. get_or v i 0),
        )

    -- and that they make nothing
    pub makes_nothing : IsWithinOne rows → sum after ≤ sum v
    makes_nothing most =
        le_of_mul-le-mul_right {k = 2 ^ 48}
        (omega (arith, mass_within rows works v least most, floor-most (2 ^ 48) (omega arith) sums after floors, all)) (omega arith)
