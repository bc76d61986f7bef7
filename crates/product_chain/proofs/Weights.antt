-- The weights of a tick are the numbers of its rows.
use Rattle.std.proofs.Common.{◌≡◌, ◌≢◌, ℕ, zero, suc, ◌+◌, ◌-◌, ◌*◌, ◌/◌, ◌<◌, ◌≤◌, inl, inr, List, [], ◌∷◌, refl, sym, ap, ◌∙◌, arith}
use Rattle.std.specs.Prelude.{Bool, true, false, ◌⊎◌, All, sum_by, if◌then◌else◌, ◌==◌}
use Rattle.std.proofs.Math.Nat.{mul-pos}
use Rattle.std.proofs.lemmas.Bool.{cases_lt, eq-eqb, ne_eqb, eqb-true}
use Rattle.std.proofs.lemmas.List.Elements.{All-head, All-tail}
use Rattle.std.proofs.lemmas.List.Sums.{sum_by-cons}
use Rattle.sil_fraction.specs.Fraction.{Fraction, of, ◌-ℚ◌, ◌*ℚ◌, whole, ratio}
use Rattle.sil_fraction.specs.Sum.{total, total_below, sum_below}
use Rattle.sil_fraction.proofs.Laws.{zero-add, zero-mul, whole-add, whole-mul, le-whole, le_of_same, ratio-positive, whole-ratio}
use Rattle.sil_fraction.proofs.Sums.{add-zero, mul-zero, mul-one, below-same, whole-sum, sum-same, sum-add}
use Rattle.sil_model.specs.LoopValue.{IsSubsystemInRange}
use Rattle.sil_model.specs.Sizes.{states_of}
use Rattle.sil_model.specs.Calendar.{beats_of, ceiling}
use Rattle.sil_model.specs.declared.parts.Subsystem.{Subsystem}
use Rattle.common_cause.proofs.Listed.{length-events}
use Rattle.model_laws.proofs.Rates.{some_beats}
use Rattle.product_chain.specs.declared.step.Step.{Step}
use Rattle.product_chain.specs.Floors.{floor_of, ceiling_of}
use Rattle.product_chain.specs.Steps.{scale, steps_from}
use Rattle.product_chain.specs.Weights.{one_at, chance_of, leaving_of, weight_of, IsRow}
use Rattle.product_chain.proofs.Distinct.{reaches, one_if, reached-once, never-back}
use Rattle.product_chain.proofs.Row.{steps_flow, step_down, step_up, sum_of, stays, row_of, Positive, scaled, one_scaled, row_below, row_lacks, row_within}
use Rattle.product_chain.proofs.Row.Positive.{none, one}
use Rattle.product_chain.proofs.Flow.{IsStep, steps-kept, positive, tick-steps, from-length, row-short}

-- quotients rounded
floor-ratio : (n d : ℕ) → 0 < d → floor_of (ratio n d) ≡ n / d
unfolding floor_of of
floor-ratio n d p = rw (ratio-positive n d p) refl

ceiling-ratio : (n d : ℕ) → 0 < d → ceiling_of (ratio n d) ≡ ceiling n d
unfolding ceiling_of of
ceiling-ratio n d p = rw (ratio-positive n d p) refl

-- a sum with one term
sum-none : (n : ℕ) → sum_below n (λ k. 0) ≡ 0
unfolding sum_below
sum-none zero = refl
sum-none (suc n) = omega (arith, sum-none n)

sum-absent : (n t x : ℕ) → n ≤ t → sum_below n (λ k. if t == k then x else 0) ≡ 0
unfolding sum_below
sum-absent zero t x h = refl
sum-absent (suc n) t x h = rw (ne_eqb t n (λ e. absurd (omega arith))) (omega (arith, sum-absent n t x (omega arith)))

sum-single : (n t x : ℕ) → t < n → sum_below n (λ k. if t == k then x else 0) ≡ x
unfolding sum_below
sum-single zero t x h = absurd (omega arith)
sum-single (suc n) t x h = elim (cases_lt t n) [
  | inl p ↦ rw (ne_eqb t n (λ e. absurd (omega arith))) (omega (arith, sum-single n t x p))
  | inr p ↦ rw (eq-eqb t n (omega arith)) (omega (arith, sum-absent n t x p))
]

below-absent : (n j : ℕ) (g : ℕ → Fraction) → n ≤ j → total_below n (λ k. g k *ℚ one_at j k) ≡ whole 0
below-absent zero j g h = refl
below-absent (suc n) j g h = rw (ne_eqb n j (λ e. absurd (omega arith)), below-absent n j g (omega arith), mul-zero (g n)) (zero-add (whole 0))

pub below-single : (n j : ℕ) (g : ℕ → Fraction) → j < n → total_below n (λ k. g k *ℚ one_at j k) ≡ g j
below-single zero j g h = absurd (omega arith)
below-single (suc n) j g h = elim (cases_lt j n) [
  | inl p ↦ rw (ne_eqb n j (λ e. absurd (omega arith)), below-single n j g p, mul-zero (g n)) (add-zero (g j))
  | inr p ↦
      let e : n ≡ j = omega arith in
      rw (eq-eqb n j e, below-absent n j g (omega arith), mul-one (g n)) (zero-add (g n) ∙ ap g e)
]

-- what the steps to one target come to
abbrev pick : ℕ → (Step → ℕ) → List Step → ℕ
pick j F ss = sum_by (λ (s : Step). if s.target == j then F s else 0) ss

-- none of the steps leads to j, or one does
record LeadsNot (j : ℕ) (ss : List Step) : Type 0 where
  flow : steps_flow ss (one_at j) ≡ whole 0
  picks : (F : Step → ℕ) → pick j F ss ≡ 0

record LeadsOnce (j : ℕ) (ss : List Step) : Type 0 where
  step : Step
  positive : 0 < step.den
  flow : steps_flow ss (one_at j) ≡ ratio step.num step.den
  picks : (F : Step → ℕ) → pick j F ss ≡ F step

leads-not : (j : ℕ) (ss : List Step) → sum_by (reaches j) ss ≡ 0 → LeadsNot j ss
leads-not j [] h = record { flow = refl; picks = λ F. refl }
leads-not j (s ∷ ss) h =
    let sums : sum_by (reaches j) (s ∷ ss) ≡ reaches j s + sum_by (reaches j) ss = sum_by-cons (reaches j) s ss in
    let rest : LeadsNot j ss = leads-not j ss (omega (arith, sums)) in
    let other : (s.target == j) ≡ false = go (s.target == j) (omega (arith, sums)) in
    record {
      flow = rw (other, rest.flow, mul-zero (ratio s.num s.den)) (zero-add (whole 0));
      picks = λ F. sum_by-cons (λ (s : Step). if s.target == j then F s else 0) s ss ∙ rw (other, rest.picks F) refl;
    }
  where
    go : (b : Bool) → one_if b ≡ 0 → b ≡ false
    go true e = absurd (omega (arith, e))
    go false e = refl

leads-once : (j : ℕ) (ss : List Step) → Positive ss → sum_by (reaches j) ss ≤ 1 → (LeadsNot j ss) ⊎ (LeadsOnce j ss)
leads-once j [] none h = inl (leads-not j [] refl)
leads-once j (s ∷ ss) (one p more) h = go (s.target == j) refl (leads-once j ss more (omega (arith, sum_by-cons (reaches j) s ss)))
  where
    all : (F : Step → ℕ) → pick j F (s ∷ ss) ≡ (if s.target == j then F s else 0) + pick j F ss
    all F = sum_by-cons (λ (s : Step). if s.target == j then F s else 0) s ss

    go : (b : Bool) → (s.target == j) ≡ b → (LeadsNot j ss) ⊎ (LeadsOnce j ss) → (LeadsNot j (s ∷ ss)) ⊎ (LeadsOnce j (s ∷ ss))
    go true e rest =
        let mine : reaches j s ≡ 1 = ap one_if e in
        let others : LeadsNot j ss = leads-not j ss (omega (arith, sum_by-cons (reaches j) s ss, mine)) in
        inr (record {
          step = s;
          positive = p;
          flow = rw (e, others.flow, mul-one (ratio s.num s.den)) (add-zero (ratio s.num s.den));
          picks = λ F. all F ∙ rw (e, others.picks F) (omega arith);
        })
    go false e (inl rest) = inl (record {
      flow = rw (e, rest.flow, mul-zero (ratio s.num s.den)) (zero-add (whole 0));
      picks = λ F. all F ∙ rw (e, rest.picks F) refl;
    })
    go false e (inr rest) = inr (record {
      step = rest.step;
      positive = rest.positive;
      flow = rw (e, rest.flow, mul-zero (ratio s.num s.den)) (zero-add (ratio rest.step.num rest.step.den));
      picks = λ F. all F ∙ rw (e, rest.picks F) (omega arith);
    })

-- all targets together
pick-all : (n i : ℕ) (F : Step → ℕ) (ss : List Step) → All (IsStep n i) ss → sum_below n (λ k. pick k F ss) ≡ sum_of 0 0 F ss
pick-all n i F [] all = sum-none n
pick-all n i F (s ∷ ss) all =
    let inside : s.target < n = (All-head (IsStep n i) s ss all).target in
    sum-same n _ _ (λ k h. sum_by-cons (λ (s : Step). if s.target == k then F s else 0) s ss)
    ∙ sum-add n (λ k. if s.target == k then F s else 0) (λ k. pick k F ss)
    ∙ cc (sum-single n s.target (F s) inside, pick-all n i F ss (All-tail (IsStep n i) s ss all))

total-pick : (j : ℕ) (F : Step → ℕ) (ss : List Step) → total (λ (s : Step). whole (F s) *ℚ one_at j s.target) ss ≡ whole (pick j F ss)
total-pick j F [] = refl
total-pick j F (s ∷ ss) =
    sym (ap whole (sum_by-cons (λ (s : Step). if s.target == j then F s else 0) s ss) ∙ whole-add _ _ ∙ cc (go (s.target == j), total-pick j F ss))
  where
    go : (b : Bool) → whole (if b then F s else 0) ≡ whole (F s) *ℚ (if b then whole 1 else whole 0)
    go true = sym (mul-one _)
    go false = sym (mul-zero _)

module _ (us : List Subsystem) (r : All IsSubsystemInRange us) (hours beats : ℕ) (enough : beats_of us hours ≤ beats) where
  abbrev n : ℕ
  n = states_of us

  some : 0 < beats
  some = omega (arith, some_beats us hours)

  abbrev down : Step → ℕ
  down = step_down hours beats

  abbrev up : Step → ℕ
  up = step_up hours beats

  module _ (i : ℕ) (inside : i < n) where
    abbrev ss : List Step
    ss = steps_from us i

    abbrev stay : ℕ
    stay = stays hours beats ss

    -- the exact chance of another count vector
    chance-flow : (j : ℕ) → i ≢ j → chance_of us hours beats i j ≡ (ratio hours beats *ℚ steps_flow ss (one_at j)) *ℚ whole scale
    chance-flow j ne =
        let none : one_at j i ≡ whole 0 = rw (ne_eqb i j ne) refl in
        ap (λ x. x *ℚ whole scale)
        (sym (tick-steps us r i hours beats (one_at j) inside) ∙ rw (none, mul-zero (whole 1 -ℚ ratio hours beats *ℚ steps_flow ss (λ k. whole 1))) (add-zero _))

    chance-once : (j : ℕ) → i ≢ j → (o : LeadsOnce j ss) → chance_of us hours beats i j ≡ ratio (hours * o.step.num * scale) (beats * o.step.den)
    chance-once j ne o =
        let e : beats * o.step.den * 1 ≡ beats * o.step.den = omega arith in
        chance-flow j ne
        ∙ ap (λ x. (ratio hours beats *ℚ x) *ℚ whole scale) o.flow
        ∙ ap (λ x. x *ℚ whole scale) (sym (one_scaled hours beats some o.step o.positive))
        ∙ scaled (hours * o.step.num) (beats * o.step.den) (mul-pos some o.positive)
        ∙ ap (λ d. ratio (hours * o.step.num * scale) d) e

    chance-not : (j : ℕ) → i ≢ j → LeadsNot j ss → chance_of us hours beats i j ≡ ratio 0 1
    chance-not j ne o =
        chance-flow j ne ∙ ap (λ x. (ratio hours beats *ℚ x) *ℚ whole scale) o.flow ∙ ap (λ x. x *ℚ whole scale) (mul-zero (ratio hours beats))
        ∙ zero-mul (whole scale) ∙ whole-ratio 0

    leads : (j : ℕ) → (LeadsNot j ss) ⊎ (LeadsOnce j ss)
    leads j = leads-once j ss (positive us r i) (reached-once us r i j)

    floors : (j : ℕ) → i ≢ j → floor_of (chance_of us hours beats i j) ≡ pick j down ss
    floors j ne = elim (leads j) [
      | inl o ↦ ap floor_of (chance-not j ne o) ∙ floor-ratio 0 1 (omega arith) ∙ sym (o.picks down)
      | inr o ↦ ap floor_of (chance-once j ne o) ∙ floor-ratio _ _ (mul-pos some o.positive) ∙ sym (o.picks down)
    ]

    ceilings : (j : ℕ) → i ≢ j → ceiling_of (chance_of us hours beats i j) ≡ pick j up ss
    ceilings j ne = elim (leads j) [
      | inl o ↦ ap ceiling_of (chance-not j ne o) ∙ ceiling-ratio 0 1 (omega arith) ∙ sym (o.picks up)
      | inr o ↦ ap ceiling_of (chance-once j ne o) ∙ ceiling-ratio _ _ (mul-pos some o.positive) ∙ sym (o.picks up)
    ]

    own : LeadsNot i ss
    own = leads-not i ss (never-back us r i)

    leaving : leaving_of us hours beats i ≡ sum_of hours beats up ss
    leaving = sum-same n _ _ (λ k h. go k (i == k) refl) ∙ pick-all n i up ss (steps-kept us r i)
      where
        go : (k : ℕ) (b : Bool) → (i == k) ≡ b → (if b then 0 else ceiling_of (chance_of us hours beats i k)) ≡ pick k up ss
        go k true e = sym (ap (λ m. pick m up ss) (sym (eqb-true i k e)) ∙ own.picks up)
        go k false e = ceilings k (λ d. no (sym (eq-eqb i k d) ∙ e))
          where
            no : true ≡ false → ⊥
            no x = cc

    weight-is : (j : ℕ) → weight_of us hours beats i j ≡ pick j down ss + (if i == j then stay else 0)
    unfolding weight_of
    weight-is j = go (i == j) refl
      where
        go : (b : Bool) → (i == j) ≡ b → (if b then scale - leaving_of us hours beats i else floor_of (chance_of us hours beats i j))
            ≡ pick j down ss + (if b then stay else 0)
        go true e =
            let none : pick j down ss ≡ 0 = ap (λ m. pick m down ss) (sym (eqb-true i j e)) ∙ own.picks down in
            omega (arith, leaving, none)
        go false e = omega (arith, floors j (λ d. no (sym (eq-eqb i j d) ∙ e)))
          where
            no : true ≡ false → ⊥
            no x = cc

    -- the row of a source at one target
    pub row-weight : (j : ℕ) → row_of hours beats ss i (one_at j) ≡ whole (weight_of us hours beats i j)
    row-weight j =
        sym (ap whole (weight-is j) ∙ whole-add _ _ ∙ cc (total-pick j down ss, go (i == j)))
      where
        go : (b : Bool) → whole (if b then stay else 0) ≡ whole stay *ℚ (if b then whole 1 else whole 0)
        go true = sym (mul-one _)
        go false = sym (mul-zero _)

    row-sum : sum_below n (weight_of us hours beats i) ≡ sum_of hours beats down ss + stay
    row-sum =
        sum-same n _ _ (λ j h. weight-is j)
        ∙ sum-add n (λ j. pick j down ss) (λ j. if i == j then stay else 0)
        ∙ cc (pick-all n i down ss (steps-kept us r i), sum-single n i stay inside)

    pub row : IsRow us hours beats i
    row = record {
      below = λ j h. rw (← row-weight j, ← tick-steps us r i hours beats (one_at j) inside) (row_below hours beats some ss (positive us r i) i (one_at j));
      most = rw row-sum (row_within hours beats some ss (positive us r i) (row-short us r i hours beats enough));
      least = omega (arith, row-sum, row_lacks hours beats some ss (positive us r i), from-length us r i, length-events us);
    }

  -- what a column is given
  pub column-weights : (v given : ℕ → ℕ) (j : ℕ) → j < n
      → total_below n (λ k. whole (given k) *ℚ one_at j k) ≡ total_below n (λ i. whole (v i) *ℚ row_of hours beats (steps_from us i) i (one_at j))
      → given j ≡ sum_below n (λ i. v i * weight_of us hours beats i j)
  column-weights v given j h e =
      let all : whole (given j) ≡ whole (sum_below n (λ i. v i * weight_of us hours beats i j)) =
      sym (below-single n j (λ k. whole (given k)) h)
      ∙ e
      ∙ below-same n _ _ (λ i p. ap (λ x. whole (v i) *ℚ x) (row-weight i p j) ∙ sym (whole-mul (v i) (weight_of us hours beats i j)))
      ∙ sym (whole-sum n (λ i. v i * weight_of us hours beats i j)) in
      omega (arith, le-whole _ _ (le_of_same _ _ all), le-whole _ _ (le_of_same _ _ (sym all)))
