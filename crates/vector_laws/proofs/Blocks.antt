-- Many beats at once by numbers that stay below them: what the end and the dwell weigh, and what they lose.
use Rattle.std.proofs.Common.{◌≡◌, ℕ, suc, ◌+◌, ◌-◌, ◌*◌, ◌/◌, ◌^◌, ◌<◌, ◌≤◌, List, length, sum, slice_index, sym, ap, ◌∙◌, arith}
use Rattle.std.proofs.Math.Nat.{mul-le-mul_left, mul-le-mul_right, le_of_mul-le-mul_right}
use mathlib.Core.Path.{fun_ext}
use Rattle.sil_fraction.specs.Fraction.{Fraction, ◌*ℚ◌, ◌≤ℚ◌, whole, inverse}
use Rattle.sil_fraction.specs.Sum.{total_below, sum_below}
use Rattle.sil_fraction.proofs.Laws.{mul_assoc, mul_comm, le_trans, le_refl, mul-le-right, mul-inverse, front, le_of_same}
use Rattle.sil_fraction.proofs.Sums.{mul-below, mul-one, add-le-add, whole-sum, whole-positive, le_from_scaled}
use Rattle.sil_model.specs.Series.{Values, times, beat_of, mean_of}
use Rattle.model_laws.specs.Polynomial.{IsLinear, IsBelowBeats, combined, means_of, in_units}
use Rattle.model_laws.proofs.Beats.{tail_sum, tails_combined}
use Rattle.vector_laws.specs.Laws.{AreFloors, IsSumWith}
use Rattle.vector_laws.specs.Vectors.{weigh}
use Rattle.vector_laws.proofs.Masses.{sum-with}
use Rattle.vector_laws.proofs.Weighing.{weigh-mul, weigh-all-le, weigh-sum}
use Rattle.vector_laws.proofs.Floors.{weigh-floor, floor-most, floor-least}
use Rattle.vector_laws.specs.Block.{StayBelow, tail_at, IsGathered}
use Rattle.vector_laws.specs.BlockLaws.{lacking, EndsLaw, DwellLaw, BlockLaw}
use Rattle.vector_laws.proofs.Moments.{mass_within, steps_within, pairs, pairs_within, pairs-twice}
use Rattle.vector_laws.proofs.Sums.{tails-weighed, tails-sum, sum-turned}

unit : 0 < 2 ^ 48
unit = omega arith

-- the numbers of a list
pub list_stays : (order m : ℕ) (numbers : List ℕ) → IsBelowBeats order numbers m → StayBelow order (λ k. slice_index numbers k) m
list_stays order m numbers h = record { below = h.below }

-- a combination of values in whole numbers, by shares of P
weigh-units : (P n : ℕ) (v : List ℕ) (X : ℕ → ℕ) (x : ℕ → Values ℕ) → 0 < P
    → weigh v (λ i. total_below n (λ k. whole (X k) *ℚ x k i)) ≡ weigh v (λ i. combined n (in_units P X) (λ k. x k i)) *ℚ whole P
weigh-units P n v X x some =
    let unit : whole P *ℚ inverse (whole P) ≡ whole 1 = mul-inverse (whole P) (whole-positive P some) in
    let each : (k : ℕ) (y : Fraction) → whole (X k) *ℚ y ≡ whole P *ℚ (in_units P X k *ℚ y) =
    λ k y. sym (sym (mul_assoc (whole P) _ y) ∙ ap (λ s. s *ℚ y) (front (whole P) (whole (X k)) (inverse (whole P)) ∙ ap (λ s. whole (X k) *ℚ s) unit
    ∙ mul-one _)) in
    ap (weigh v) (fun_ext (λ i. ap (total_below n) (fun_ext (λ k. each k (x k i))) ∙ sym (mul-below n (whole P) _))) ∙ weigh-mul v (whole P) _ ∙ mul_comm _ _

module _ (is_below : (Values ℕ → Values ℕ) → Type 0) (loss : ℕ) (v : List ℕ) where
  -- sums in whole units, against numbers X in units of 1 / P that stay below B
  module _ (P n : ℕ) (some : 0 < P) (sums out : List ℕ) (floors : AreFloors P sums out) (X : ℕ → ℕ) (gathered : IsGathered is_below loss v sums X n) where
    floored_weighed : (T : Values ℕ → Values ℕ) → IsLinear T → is_below T → (B f : Values ℕ)
        → ((i : ℕ) → combined n (in_units P X) (λ k. times T k f i) ≤ℚ B i) → weigh out f ≤ℚ weigh v B
    floored_weighed T t b B f below =
        le_from_scaled P _ _ some
        (le_trans _ _ _ (weigh-floor P some sums out floors f)
        (le_trans _ _ _ (gathered.weighed T t b f)
        (le_trans _ _ _ (le_of_same _ _ (weigh-units P n v X (λ k. times T k f) some)) (mul-le-right _ _ (whole P) (weigh-all-le v _ B below)))))

    -- what is lost: the numbers lack at most G of m, and the numbers of ticks by their weights are at most d
    floored_least : (m G d : ℕ) → sum v ≤ P → m * P ≤ sum_below n X + G → sum_below n (λ k. k * X k) ≤ d * P
        → m * sum v ≤ sum out + (G + d * loss + length out)
    floored_least m G d full lack ticks =
        let a : m * P * sum v ≤ sum_below n X * sum v + G * P = omega (arith, mul-le-mul_right (sum v) lack, mul-le-mul_left G full) in
        le_of_mul-le-mul_right {k = P} (omega (arith, a, gathered.least, floor-least P some sums out floors, mul-le-mul_left loss ticks)) some

    floored_most : (m : ℕ) → sum_below n X ≤ m * P → sum out ≤ m * sum v
    floored_most m within = le_of_mul-le-mul_right {k = P} (omega (arith, gathered.most, floor-most P some sums out floors, mul-le-mul_left (sum v) within)) some

  module _ (order m n : ℕ) (X : ℕ → ℕ) (stays : StayBelow order X m) where
    tail : ℕ → ℕ
    tail k = tail_at n X k

    -- the tails stay below the sum of the means
    tails-below : (N : ℕ) → order ≤ N → (T : Values ℕ → Values ℕ) → IsLinear T → (f : Values ℕ) (i : ℕ)
        → combined n (in_units (2 ^ 48) (tail_at n X)) (λ k. times T k f i) ≤ℚ means_of (beat_of T N) (mean_of T N) m f i
    tails-below N within T t f i =
        let c : ℕ → Fraction = in_units (2 ^ 48) X in
        let shared : (k : ℕ) → in_units (2 ^ 48) (tail_at n X) k ≡ tail_sum n c k =
        λ k. ap (λ x. x *ℚ inverse (whole (2 ^ 48))) (whole-sum (n - suc k) _) ∙ mul_comm _ _ ∙ mul-below (n - suc k) (inverse (whole (2 ^ 48))) _
        ∙ ap (total_below (n - suc k)) (fun_ext (λ l. mul_comm _ _)) in
        le_trans _ _ _
        (le_of_same _ _ (ap (total_below n) (fun_ext (λ k. ap (λ y. y *ℚ times T k f i) (shared k))) ∙ tails_combined n c (λ k. times T k f i)))
        ((stays.below T t N within).sojourns n f i)

    -- they sum to at most m, and their numbers of ticks to at most the pairs of m + 1
    tails-within : sum_below n (tail_at n X) ≤ m * 2 ^ 48
    tails-within = rw (tails-sum n X, sum-turned n X) (steps_within order m X stays n)

    tails-steps : sum_below n (λ k. k * tail_at n X k) ≤ pairs (suc m) * 2 ^ 48
    tails-steps = rw (tails-weighed n (λ k. k) X) (pairs_within order m X stays n)

    half : pairs (suc m) ≡ m * (m + 1) / 2
    half = omega (arith, pairs-twice m)

    pub ends_law : (sums after : List ℕ) → IsGathered is_below loss v sums X n → AreFloors (2 ^ 48) sums after
        → EndsLaw is_below loss order m n X v sums after
    ends_law sums after gathered floors =
        let all : sum_below n X ≤ 1 * 2 ^ 48 = omega (arith, mass_within order m X stays n) in
        record {
          weighed = record {
            weighed = λ T t b N within f. floored_weighed (2 ^ 48) n unit sums after floors X gathered T t b (times (beat_of T N) m f) f
                ((stays.below T t N within).ends n f);
          };
          most = omega (arith, floored_most (2 ^ 48) n unit sums after floors X gathered 1 all);
          least = λ full.
              let lack : 1 * 2 ^ 48 ≤ sum_below n X + lacking 1 n X = omega arith in
              let steps : sum_below n (λ k. k * X k) ≤ m * 2 ^ 48 = rw (sum-turned n X) (steps_within order m X stays n) in
              omega (arith, floored_least (2 ^ 48) n unit sums after floors X gathered 1 (lacking 1 n X) m full lack steps);
        }

    pub dwell_law : (sums floors old new : List ℕ) → IsGathered is_below loss v sums (tail_at n X) n → AreFloors (2 ^ 48) sums floors
        → IsSumWith 1 old floors new
        → DwellLaw is_below loss order m n X v sums floors old new
    dwell_law sums floors old new gathered down added =
        let s : sum new ≡ sum old + 1 * sum floors = sum-with 1 old floors new added in
        record {
          weighed = record {
            weighed = λ T t b N within f.
                rw (weigh-sum old floors new added f)
                (add-le-add _ _ _ _ (le_refl (weigh old f))
                (floored_weighed (2 ^ 48) n unit sums floors down (tail_at n X) gathered T t b (means_of (beat_of T N) (mean_of T N) m f) f
                (tails-below N within T t f)));
          };
          most = omega (arith, s, floored_most (2 ^ 48) n unit sums floors down (tail_at n X) gathered m tails-within);
          least = λ full.
              let G : ℕ = lacking m n (tail_at n X) in
              let lack : m * 2 ^ 48 ≤ sum_below n (tail_at n X) + G = omega arith in
              let least : m * sum v ≤ sum floors + (G + pairs (suc m) * loss + length floors) =
              floored_least (2 ^ 48) n unit sums floors down (tail_at n X) gathered m G (pairs (suc m)) full lack tails-steps in
              omega (arith, s, least, ap (λ p. p * loss) half, added.more_length);
        }

    pub block_law : BlockLaw is_below loss order m n X v
    block_law = record { ends = ends_law; dwell = dwell_law }
