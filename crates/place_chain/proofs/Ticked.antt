-- A tick over the places: it encloses, it keeps no more than there was, and it loses little.
use Rattle.std.proofs.Common.{◌≡◌, ℕ, ◌+◌, ◌*◌, ◌/◌, ◌^◌, ◌<◌, ◌≤◌, List, length, get_or, refl, sym, ap, ◌∙◌, arith}
use Rattle.std.specs.Prelude.{Bool, true, false, if◌then◌else◌, sum}
use Rattle.std.proofs.Math.Nat.{div-mul-le_self, lt-div-mul-add, mul-le-mul_left, le_of_mul-le-mul_right}
use Rattle.sil_fraction.specs.Fraction.{Fraction, ◌*ℚ◌, ◌≤ℚ◌, whole, ratio}
use Rattle.sil_fraction.specs.Sum.{total_below, sum_below}
use Rattle.sil_fraction.proofs.Laws.{le_trans, le_of_same, mul-le-right, mul-le-left, mul_comm, mul_assoc, whole-mul, whole-le}
use Rattle.sil_fraction.proofs.Sums.{below-le, below-same, below-swap, mul-below, le_from_scaled, whole-sum, sum-le, sum-same, sum-add, sum-mul}
use Rattle.sil_model.specs.Budget.{lumped_events_of}
use Rattle.sil_model.specs.Sizes.{states_of}
use Rattle.sil_model.specs.Series.{Values}
use Rattle.sil_model.specs.declared.parts.Subsystem.{Subsystem}
use Rattle.model_laws.specs.Polynomial.{IsLinear}
use Rattle.model_laws.proofs.Operators.{summed}
use Rattle.lumped_laws.specs.ValueLists.{tick_list}
use Rattle.lumped_laws.proofs.LinearLists.{linear_laws}
use Rattle.vector_laws.specs.Vectors.{weigh}
use Rattle.vector_laws.proofs.Masses.{sum_of, sum-constant}
use Rattle.vector_laws.proofs.Weighing.{weigh-below}
use Rattle.product_chain.specs.declared.column.Entry.{Entry}
use Rattle.product_chain.specs.Columns.{part, given}
use Rattle.product_chain.specs.Kept.{ChainValue}
use Rattle.product_chain.specs.Steps.{scale}
use Rattle.product_chain.specs.Weights.{IsRow, one_at, weight_of}
use Rattle.product_chain.proofs.Weights.{row}
use Rattle.place_chain.specs.PlaceChain.{IsPlaceChain, spread, step_at}
use Rattle.place_chain.proofs.Places.{sum-places, sum-places-le, sum-swap}

-- what a tick leaves of a vector over the places
pub record IsTickAt (c : ChainValue) (places : List ℕ) (closed : Bool) (from to : List ℕ) : Type 0 where
  pub floors : (k : ℕ) → k < length places
      → get_or to k 0 ≡ sum_below (length places) (λ l. get_or from l 0 * weight_of c.of.subsystems c.hours c.beats (get_or places l 0) (get_or places k 0)) / scale
  pub encloses : (g : Values ℕ) → weigh to g ≤ℚ weigh from (step_at places (tick_list c.of.subsystems (ratio c.hours c.beats)) g)
  pub kept : sum to ≤ sum from
  pub lack : sum from ≤ sum to + (if closed then lumped_events_of c.of.subsystems + length places else 2 ^ 48)

module _ (c : ChainValue) (places : List ℕ) (closed : Bool) (starts : List ℕ) (entries : List Entry) (r : IsPlaceChain c places closed starts entries) where
  abbrev us : List Subsystem
  us = c.of.subsystems

  abbrev n : ℕ
  n = states_of us

  abbrev m : ℕ
  m = length places

  abbrev E : ℕ
  E = lumped_events_of us

  abbrev p : ℕ → ℕ
  p k = get_or places k 0

  abbrev w : ℕ → ℕ → ℕ
  w l k = weight_of us c.hours c.beats (p l) (p k)

  abbrev T : Values ℕ → Values ℕ
  T f = tick_list us (ratio c.hours c.beats) f

  abbrev column : ℕ → List Entry
  column k = part starts entries k

  row-of : (l : ℕ) → l < m → IsRow us c.hours c.beats (p l)
  row-of l h = row us r.valid.subsystems c.hours c.beats r.timed.enough (p l) (r.placed.below l h)

  linear : IsLinear T
  linear = (linear_laws us).tick (ratio c.hours c.beats)

  -- the step at the places, by the chances between them
  step-sum : (g : Values ℕ) (l : ℕ) → step_at places T g l ≡ total_below m (λ k. g k *ℚ T (one_at (p k)) (p l))
  unfolding step_at spread
  step-sum g l =
      ap (λ (v : Values ℕ). v (p l)) (summed T linear m (λ k i. g k *ℚ one_at (p k) i))
      ∙ below-same m _ _ (λ k h. ap (λ (v : Values ℕ). v (p l)) (linear.scales (g k) (one_at (p k))))

  -- each row is below the exact one
  row-exact : (g : Values ℕ) (l : ℕ) → l < m → total_below m (λ k. whole (w l k) *ℚ g k) ≤ℚ step_at places T g l *ℚ whole scale
  row-exact g l h =
      let right : step_at places T g l *ℚ whole scale ≡ total_below m (λ k. g k *ℚ (T (one_at (p k)) (p l) *ℚ whole scale)) =
      ap (λ x. x *ℚ whole scale) (step-sum g l) ∙ mul_comm _ (whole scale) ∙ mul-below m (whole scale) (λ k. g k *ℚ T (one_at (p k)) (p l))
      ∙ below-same m _ _ (λ k a. mul_comm (whole scale) _ ∙ mul_assoc (g k) (T (one_at (p k)) (p l)) (whole scale)) in
      rw right (below-le m _ _ (λ k a. le_trans _ _ _ (le_of_same _ _ (mul_comm (whole (w l k)) (g k)))
      (mul-le-left (g k) _ _ ((row-of l h).below (p k) (r.placed.below k a)))))

  -- the sum of a row is no more than that over all count vectors, and no less where the places are closed
  abbrev row-sum : ℕ → ℕ
  row-sum l = sum_below m (w l)

  row-within : (l : ℕ) → l < m → row-sum l ≤ scale
  row-within l h = omega (arith, sum-places-le p (weight_of us c.hours c.beats (p l)) n m r.placed.rising r.placed.below, (row-of l h).most)

  row-lacks : closed ≡ true → (l : ℕ) → l < m → scale ≤ row-sum l + E
  row-lacks shut l h =
      let all : row-sum l ≡ sum_below n (weight_of us c.hours c.beats (p l)) =
      sym (sum-places p (weight_of us c.hours c.beats (p l)) n m r.placed.rising r.placed.below (λ j a o. r.shut shut l j h a o)) in
      omega (arith, all, (row-of l h).least)

  module _ (v to : ℕ → ℕ) (floors : (k : ℕ) → k < m → to k ≡ given v (column k) / scale) where
    abbrev S : ℕ → ℕ
    S k = sum_below m (λ l. v l * w l k)

    pub floor-is : (k : ℕ) → k < m → to k ≡ S k / scale
    floor-is k h = floors k h ∙ ap (λ x. x / scale) (r.between.weights v k h)

    floor-le : (k : ℕ) → k < m → to k * scale ≤ S k
    floor-le k h = rw (floor-is k h) (div-mul-le_self (S k) scale)

    floor-gt : (k : ℕ) → k < m → S k ≤ to k * scale + scale
    floor-gt k h = let q : 0 < scale = omega arith in rw (floor-is k h) (omega (arith, lt-div-mul-add {a = S k} {b = scale} q))

    swapped : (x y z : Fraction) → (x *ℚ y) *ℚ z ≡ (x *ℚ z) *ℚ y
    swapped x y z = mul_assoc x y z ∙ ap (λ t. x *ℚ t) (mul_comm y z) ∙ sym (mul_assoc x z y)

    -- what the columns are given is what the rows give
    rows : (g : ℕ → Fraction) → total_below m (λ k. whole (S k) *ℚ g k) ≡ total_below m (λ l. whole (v l) *ℚ total_below m (λ k. whole (w l k) *ℚ g k))
    rows g =
        below-same m _ (λ k. total_below m (λ l. whole (v l) *ℚ (whole (w l k) *ℚ g k))) (λ k h. one k)
        ∙ below-swap m m (λ k l. whole (v l) *ℚ (whole (w l k) *ℚ g k))
        ∙ below-same m _ _ (λ l h. sym (mul-below m (whole (v l)) (λ k. whole (w l k) *ℚ g k)))
      where
        one : (k : ℕ) → whole (S k) *ℚ g k ≡ total_below m (λ l. whole (v l) *ℚ (whole (w l k) *ℚ g k))
        one k =
            mul_comm _ (g k) ∙ ap (λ x. g k *ℚ x) (whole-sum m (λ l. v l * w l k)) ∙ mul-below m (g k) (λ l. whole (v l * w l k))
            ∙ below-same m _ _ (λ l h. mul_comm (g k) _ ∙ ap (λ x. x *ℚ g k) (whole-mul (v l) (w l k)) ∙ mul_assoc (whole (v l)) (whole (w l k)) (g k))

    pub encloses : (g : ℕ → Fraction) → total_below m (λ k. whole (to k) *ℚ g k) ≤ℚ total_below m (λ l. whole (v l) *ℚ step_at places T g l)
    encloses g =
        let U : ℕ → Fraction = step_at places T g in
        let left : total_below m (λ k. whole (to k) *ℚ g k) *ℚ whole scale ≡ total_below m (λ k. (whole (to k) *ℚ whole scale) *ℚ g k) =
        mul_comm _ (whole scale) ∙ mul-below m (whole scale) (λ k. whole (to k) *ℚ g k)
        ∙ below-same m _ _ (λ k h. mul_comm (whole scale) _ ∙ swapped (whole (to k)) (g k) (whole scale)) in
        let right : total_below m (λ l. whole (v l) *ℚ (U l *ℚ whole scale)) ≡ total_below m (λ l. whole (v l) *ℚ U l) *ℚ whole scale =
        below-same m _ _ (λ l h. sym (mul_assoc (whole (v l)) (U l) (whole scale)) ∙ mul_comm _ (whole scale))
        ∙ sym (mul-below m (whole scale) (λ l. whole (v l) *ℚ U l)) ∙ mul_comm (whole scale) _ in
        let first : total_below m (λ k. (whole (to k) *ℚ whole scale) *ℚ g k) ≤ℚ total_below m (λ k. whole (S k) *ℚ g k) =
        below-le m _ _ (λ k h. mul-le-right _ _ (g k) (rw (← whole-mul (to k) scale) (whole-le _ _ (floor-le k h)))) in
        let second : total_below m (λ l. whole (v l) *ℚ total_below m (λ k. whole (w l k) *ℚ g k)) ≤ℚ total_below m (λ l. whole (v l) *ℚ (U l *ℚ whole scale)) =
        below-le m _ _ (λ l h. mul-le-left (whole (v l)) _ _ (row-exact g l h)) in
        le_from_scaled scale _ _ (omega arith) (rw (left, ← right) (le_trans _ _ _ first (rw (rows g) second)))

    -- the sum of what the columns are given
    sums-same : sum_below m S ≡ sum_below m (λ l. v l * row-sum l)
    sums-same = sum-swap m m (λ k l. v l * w l k) ∙ sum-same m _ _ (λ l h. sum-mul m (v l) (w l))

    pub kept-sum : sum_below m to ≤ sum_below m v
    kept-sum =
        let a : sum_below m (λ k. scale * to k) ≤ sum_below m S = sum-le m _ _ (λ k h. omega (arith, floor-le k h)) in
        let b : sum_below m (λ l. v l * row-sum l) ≤ sum_below m (λ l. scale * v l) =
        sum-le m _ _ (λ l h. omega (arith, mul-le-mul_left (v l) (row-within l h))) in
        le_of_mul-le-mul_right {k = scale} (omega (arith, a, b, sums-same, sum-mul m scale to, sum-mul m scale v)) (omega arith)

    pub lost-sum : closed ≡ true → sum_below m v ≤ scale → sum_below m v ≤ sum_below m to + E + m
    lost-sum shut small =
        let a : sum_below m S ≤ sum_below m (λ k. scale * to k + scale) = sum-le m _ _ (λ k h. omega (arith, floor-gt k h)) in
        let b : sum_below m (λ l. scale * v l) ≤ sum_below m (λ l. v l * row-sum l + E * v l) =
        sum-le m _ _ (λ l h. omega (arith, mul-le-mul_left (v l) (row-lacks shut l h))) in
        let d : E * sum_below m v ≤ E * scale = mul-le-mul_left E small in
        le_of_mul-le-mul_right {k = scale}
        (omega (
          arith,
          a,
          b,
          d,
          sums-same,
          sum-mul m scale to,
          sum-mul m scale v,
          sum-mul m E v,
          sum-add m (λ k. scale * to k) (λ k. scale),
          sum-constant m scale,
          sum-add m (λ l. v l * row-sum l) (λ l. E * v l),
        )) (omega arith)

  pub ticked : (from to : List ℕ) → length from ≡ m → length to ≡ m → sum from ≤ scale
      → ((k : ℕ) → k < m → get_or to k 0 ≡ given (λ i. get_or from i 0) (column k) / scale) → IsTickAt c places closed from to
  ticked from to from_size to_size small floors =
      let old : ℕ → ℕ = λ i. get_or from i 0 in
      let new : ℕ → ℕ = λ k. get_or to k 0 in
      let few : sum_below m old ≤ scale = rw (sum_of from, from_size) at small in
      record {
        floors = floor-is old new floors;
        encloses = λ g. rw (weigh-below to g, weigh-below from (step_at places T g), from_size, to_size) (encloses old new floors g);
        kept = rw (sum_of to, sum_of from, from_size, to_size) (kept-sum old new floors);
        lack = lacks closed refl small (λ shut. rw (sum_of to, sum_of from, from_size, to_size) (lost-sum old new floors shut few));
      }
    where
      lacks : (b : Bool) → closed ≡ b → sum from ≤ scale → (closed ≡ true → sum from ≤ sum to + E + m) → sum from ≤ sum to + (if b then E + m else 2 ^ 48)
      lacks true e few known = omega (arith, known e)
      lacks false e few known = omega (arith, few)
