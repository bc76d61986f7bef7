-- A tick of a vector: it encloses, it keeps no more than there was, and it loses little.
use Rattle.std.proofs.Common.{◌≡◌, ℕ, ◌+◌, ◌*◌, ◌/◌, ◌<◌, ◌≤◌, inl, inr, List, [], ◌∷◌, length, get_or, refl, sym, ap, ◌∙◌, arith}
use Rattle.std.specs.Prelude.{All, sum}
use Rattle.std.proofs.Math.Nat.{div-mul-le_self, lt-div-mul-add, mul-le-mul_left, le_of_mul-le-mul_right}
use Rattle.std.proofs.lemmas.Bool.{cases_lt}
use Rattle.std.proofs.lemmas.List.{get_or_past}
use Rattle.sil_fraction.specs.Fraction.{Fraction, ◌+ℚ◌, ◌*ℚ◌, ◌≤ℚ◌, whole, ratio}
use Rattle.sil_fraction.specs.Sum.{total, total_below, sum_below}
use Rattle.sil_fraction.proofs.Laws.{le_trans, le_of_same, mul-le-right, mul-le-left, mul_comm, mul_assoc, whole-mul, whole-add, whole-le, le-whole}
use Rattle.sil_fraction.proofs.Sums.{below-le, below-same, mul-below, mul-one, le_from_scaled, whole-sum, sum-le, sum-add, sum-mul}
use Rattle.sil_model.specs.Budget.{lumped_events_of}
use Rattle.sil_model.specs.LoopValue.{LoopValue, IsSubsystemInRange}
use Rattle.sil_model.specs.Sizes.{states_of}
use Rattle.sil_model.specs.Series.{Values}
use Rattle.sil_model.specs.Calendar.{beats_of}
use Rattle.sil_model.specs.declared.parts.Subsystem.{Subsystem}
use Rattle.common_cause.specs.LumpEvents.{lump_events_of}
use Rattle.common_cause.proofs.Listed.{length-events}
use Rattle.model_laws.proofs.Rates.{some_beats}
use Rattle.product_chain.specs.declared.moves.Move.{Move}
use Rattle.product_chain.specs.declared.moves.TickRate.{TickRate}
use Rattle.product_chain.specs.declared.column.Entry.{Entry}
use Rattle.product_chain.specs.declared.step.Step.{Step}
use Rattle.product_chain.specs.Steps.{scale, steps_from}
use Rattle.product_chain.specs.Columns.{no_rate, rate_of, timed, part, given}
use Rattle.lumped_laws.specs.ValueLists.{tick_list}
use Rattle.vector_laws.specs.Vectors.{weigh}
use Rattle.vector_laws.proofs.Masses.{sum_of as sum-places, sum-constant}
use Rattle.vector_laws.proofs.Weighing.{weigh-below}
use Rattle.product_chain.specs.Kept.{AreMoves, AreColumns, IsChain}
use Rattle.product_chain.specs.Held.{HoldWeights}
use Rattle.product_chain.proofs.Bounds.{weighted, entries-few, column-positive}
use Rattle.product_chain.specs.Weights.{one_at, weight_of}
use Rattle.product_chain.proofs.Weights.{column-weights}
use Rattle.product_chain.proofs.Row.{step_down, sum_of, stays, row_of, row_below, row_lacks, row_within}
use Rattle.product_chain.proofs.Given.{all-given}
use Rattle.product_chain.proofs.Flow.{own-source, positive, tick-steps, from-length, row-short}

-- a rate that is not known has no chance
timed-none : (h b : ℕ) → no_rate ≡ timed h b no_rate
timed-none h b = let z : h * 0 * scale ≡ 0 = omega arith in let y : b * 0 ≡ 0 = omega arith in rw (z, y) refl

chance-of : (h b : ℕ) (rates : List TickRate) → All (λ r. r ≡ timed h b r) rates → (m : Move) → rate_of rates m ≡ timed h b (rate_of rates m)
chance-of h b rates all m = elim (cases_lt m.rate (length rates)) [
  | inl p ↦ all m.rate no_rate p
  | inr p ↦ let none : get_or rates m.rate no_rate ≡ no_rate = get_or_past rates m.rate no_rate p in rw none (timed-none h b)
]

module _ (us : List Subsystem) (r : All IsSubsystemInRange us) (hours beats : ℕ) (enough : beats_of us hours ≤ beats) (rates : List TickRate)
    (moves : List Move) (move_starts stays' starts : List ℕ) (entries : List Entry)
    (are : AreMoves us rates moves move_starts) (filled : AreColumns us hours beats rates moves move_starts stays' starts entries) where
  abbrev n : ℕ
  n = states_of us

  abbrev E : ℕ
  E = length (lump_events_of us)

  some : 0 < beats
  some = omega (arith, some_beats us hours)

  abbrev column : ℕ → List Entry
  column j = part starts entries j

  rows : (v : ℕ → ℕ) (f : ℕ → Fraction) → total_below n (λ j. whole (given v (column j)) *ℚ f j)
      ≡ total_below n (λ i. whole (v i) *ℚ row_of hours beats (steps_from us i) i f)
  rows v f = all-given us n hours beats rates moves (own-source us r) are.steps (chance-of hours beats rates filled.chances) v f move_starts stays'
      starts entries are.parts are.targets filled.stay filled.columns

  -- each column is given what the weights to its target give
  pub column-given : (v : ℕ → ℕ) (j : ℕ) → j < n → given v (column j) ≡ sum_below n (λ i. v i * weight_of us hours beats i j)
  column-given v j h = column-weights us r hours beats enough v (λ k. given v (column k)) j h (rows v (one_at j))

  -- each row is below the exact one
  row-exact : (f : ℕ → Fraction) (i : ℕ) → i < n → row_of hours beats (steps_from us i) i f ≤ℚ tick_list us (ratio hours beats) f i *ℚ whole scale
  row-exact f i h = rw (← tick-steps us r i hours beats f h) (row_below hours beats some (steps_from us i) (positive us r i) i f)

  module _ (v to : ℕ → ℕ) (floors : (j : ℕ) → j < n → to j ≡ given v (column j) / scale) where
    floor-le : (j : ℕ) → j < n → to j * scale ≤ given v (column j)
    floor-le j h = rw (floors j h) (div-mul-le_self (given v (column j)) scale)

    floor-gt : (j : ℕ) → j < n → given v (column j) ≤ to j * scale + scale
    floor-gt j h = let p : 0 < scale = omega arith in rw (floors j h) (omega (arith, lt-div-mul-add {a = given v (column j)} {b = scale} p))

    swapped : (x y z : Fraction) → (x *ℚ y) *ℚ z ≡ (x *ℚ z) *ℚ y
    swapped x y z = mul_assoc x y z ∙ ap (λ t. x *ℚ t) (mul_comm y z) ∙ sym (mul_assoc x z y)

    pub encloses : (f : ℕ → Fraction) → total_below n (λ j. whole (to j) *ℚ f j) ≤ℚ total_below n (λ i. whole (v i) *ℚ tick_list us (ratio hours beats) f i)
    encloses f =
        let T : ℕ → Fraction = tick_list us (ratio hours beats) f in
        let left : total_below n (λ j. whole (to j) *ℚ f j) *ℚ whole scale ≡ total_below n (λ j. (whole (to j) *ℚ whole scale) *ℚ f j) =
        mul_comm _ (whole scale) ∙ mul-below n (whole scale) (λ j. whole (to j) *ℚ f j) ∙ below-same n _ _ (λ j p. mul_comm (whole scale) _
        ∙ swapped (whole (to j)) (f j) (whole scale)) in
        let right : total_below n (λ i. whole (v i) *ℚ (T i *ℚ whole scale)) ≡ total_below n (λ i. whole (v i) *ℚ T i) *ℚ whole scale =
        below-same n _ _ (λ i p. sym (mul_assoc (whole (v i)) (T i) (whole scale)) ∙ mul_comm _ (whole scale))
        ∙ sym (mul-below n (whole scale) (λ i. whole (v i) *ℚ T i)) ∙ mul_comm (whole scale) _ in
        let first : total_below n (λ j. (whole (to j) *ℚ whole scale) *ℚ f j) ≤ℚ total_below n (λ j. whole (given v (column j)) *ℚ f j) =
        below-le n _ _ (λ j p. mul-le-right _ _ (f j) (rw (← whole-mul (to j) scale) (whole-le _ _ (floor-le j p)))) in
        let second : total_below n (λ i. whole (v i) *ℚ row_of hours beats (steps_from us i) i f)
        ≤ℚ total_below n (λ i. whole (v i) *ℚ (T i *ℚ whole scale)) = below-le n _ _ (λ i p. mul-le-left (whole (v i)) _ _ (row-exact f i p)) in
        le_from_scaled scale _ _ (omega arith) (rw (left, ← right) (le_trans _ _ _ first (rw (rows v f) second)))

    -- each number is one floor of a sum of products
    pub floor-weights : (j : ℕ) → j < n → to j ≡ sum_below n (λ i. v i * weight_of us hours beats i j) / scale
    floor-weights j h = floors j h ∙ ap (λ x. x / scale) (column-given v j h)

    -- the sum of a row
    abbrev row-sum : ℕ → ℕ
    row-sum i = sum_of hours beats (step_down hours beats) (steps_from us i) + stays hours beats (steps_from us i)

    row-whole : (i : ℕ) → row_of hours beats (steps_from us i) i (λ j. whole 1) ≡ whole (row-sum i)
    row-whole i = ap (λ x. x +ℚ whole (stays hours beats (steps_from us i)) *ℚ whole 1) (go (steps_from us i))
        ∙ ap (λ x. whole (sum_of hours beats (step_down hours beats) (steps_from us i)) +ℚ x) (mul-one _) ∙ sym (whole-add _ _)
      where
        go : (ss : List Step) → total (λ (s : Step). whole (step_down hours beats s) *ℚ whole 1) ss ≡ whole (sum_of hours beats (step_down hours beats) ss)
        go [] = refl
        go (s ∷ ss) = rw (whole-add, mul-one (whole (step_down hours beats s)), go ss) refl

    -- what all columns are given is what all rows give
    sums-same : sum_below n (λ j. given v (column j)) ≡ sum_below n (λ i. v i * row-sum i)
    sums-same =
        let e : whole (sum_below n (λ j. given v (column j))) ≡ whole (sum_below n (λ i. v i * row-sum i)) =
        whole-sum n _ ∙ below-same n _ _ (λ j p. sym (mul-one _)) ∙ rows v (λ j. whole 1)
        ∙ below-same n _ _ (λ i p. ap (λ x. whole (v i) *ℚ x) (row-whole i) ∙ sym (whole-mul (v i) (row-sum i))) ∙ sym (whole-sum n _) in
        omega (arith, le-whole _ _ (le_of_same _ _ e), le-whole _ _ (le_of_same _ _ (sym e)))

    row-within : (i : ℕ) → row-sum i ≤ scale
    row-within i = row_within hours beats some (steps_from us i) (positive us r i) (row-short us r i hours beats enough)

    row-lacks : (i : ℕ) → scale ≤ row-sum i + E
    row-lacks i = omega (arith, row_lacks hours beats some (steps_from us i) (positive us r i), from-length us r i)

    pub kept-sum : sum_below n to ≤ sum_below n v
    kept-sum =
        let a : sum_below n (λ j. scale * to j) ≤ sum_below n (λ j. given v (column j)) = sum-le n _ _ (λ j p. omega (arith, floor-le j p)) in
        let b : sum_below n (λ i. v i * row-sum i) ≤ sum_below n (λ i. scale * v i) =
        sum-le n _ _ (λ i p. omega (arith, mul-le-mul_left (v i) (row-within i))) in
        le_of_mul-le-mul_right {k = scale} (omega (arith, a, b, sums-same, sum-mul n scale to, sum-mul n scale v)) (omega arith)

    pub lost-sum : sum_below n v ≤ scale → sum_below n v ≤ sum_below n to + E + n
    lost-sum small =
        let a : sum_below n (λ j. given v (column j)) ≤ sum_below n (λ j. scale * to j + scale) = sum-le n _ _ (λ j p. omega (arith, floor-gt j p)) in
        let b : sum_below n (λ i. scale * v i) ≤ sum_below n (λ i. v i * row-sum i + E * v i) =
        sum-le n _ _ (λ i p. omega (arith, mul-le-mul_left (v i) (row-lacks i))) in
        let c : E * sum_below n v ≤ E * scale = mul-le-mul_left E small in
        le_of_mul-le-mul_right {k = scale}
        (omega (
          arith,
          a,
          b,
          c,
          sums-same,
          sum-mul n scale to,
          sum-mul n scale v,
          sum-mul n E v,
          sum-add n (λ j. scale * to j) (λ j. scale),
          sum-constant n scale,
          sum-add n (λ i. v i * row-sum i) (λ i. E * v i),
        )) (omega arith)

-- what a tick leaves of a vector
pub record IsTick (us : List Subsystem) (hours beats : ℕ) (from to : List ℕ) : Type 0 where
  pub floors : (j : ℕ) → j < states_of us → get_or to j 0 ≡ sum_below (states_of us) (λ i. get_or from i 0 * weight_of us hours beats i j) / scale
  pub encloses : (f : Values ℕ) → weigh to f ≤ℚ weigh from (tick_list us (ratio hours beats) f)
  pub kept : sum to ≤ sum from
  pub lack : sum from ≤ sum to + lumped_events_of us + states_of us

-- the columns of a chain hold its weights
pub holds : (l : LoopValue) (hours beats : ℕ) (rates : List TickRate) (moves : List Move) (move_starts stays starts : List ℕ) (entries : List Entry)
    (capacity : ℕ) → IsChain l hours beats rates moves move_starts stays starts entries capacity → HoldWeights l.subsystems hours beats starts entries
holds l hours beats rates moves move_starts stays starts entries capacity c = record {
  columns = weighted l hours beats rates moves move_starts stays starts entries capacity c;
  positive = column-positive l hours beats rates moves move_starts stays starts entries capacity c;
  weights = column-given l.subsystems c.valid.subsystems hours beats c.timed.enough rates moves move_starts stays starts entries c.known_moves c.columns;
  number = rw (length-events l.subsystems) at (entries-few l hours beats rates moves move_starts stays starts entries capacity c);
}

-- by the columns of a chain
module _ (l : LoopValue) (hours beats : ℕ) (rates : List TickRate) (moves : List Move) (move_starts stays starts : List ℕ) (entries : List Entry) (capacity : ℕ)
    (c : IsChain l hours beats rates moves move_starts stays starts entries capacity) (from to : List ℕ)
    (from_size : length from ≡ states_of l.subsystems) (to_size : length to ≡ states_of l.subsystems) where
  abbrev us : List Subsystem
  us = l.subsystems

  abbrev old : ℕ → ℕ
  old i = get_or from i 0

  abbrev new : ℕ → ℕ
  new j = get_or to j 0

  pub ticked : sum from ≤ scale → ((j : ℕ) → j < states_of us → new j ≡ given old (part starts entries j) / scale) → IsTick us hours beats from to
  ticked small floors =
      let few : sum_below (states_of us) old ≤ scale = rw (sum-places from, from_size) at small in
      record {
        floors = floor-weights us c.valid.subsystems hours beats c.timed.enough rates moves move_starts stays starts entries c.known_moves c.columns
            old new floors;
        encloses = λ f.
            rw (weigh-below to f, weigh-below from (tick_list us (ratio hours beats) f), from_size, to_size)
            (encloses us c.valid.subsystems hours beats c.timed.enough rates moves move_starts stays starts entries c.known_moves c.columns old new floors f);
        kept =
            rw (sum-places to, sum-places from, from_size, to_size)
            (kept-sum us c.valid.subsystems hours beats c.timed.enough rates moves move_starts stays starts entries c.known_moves c.columns old new floors);
        lack =
            rw (sum-places to, sum-places from, from_size, to_size)
            (omega (
              arith,
              length-events us,
              lost-sum us c.valid.subsystems hours beats c.timed.enough rates moves move_starts stays starts entries c.known_moves c.columns old new
                  floors few,
            ));
      }
