-- The steps of a count vector have the flow of the loop's events.
use Rattle.std.proofs.Common.{◌≡◌, ℕ, zero, suc, ◌+◌, ◌*◌, ◌^◌, ◌<◌, ◌≤◌, List, [], ◌∷◌, length, get_or, refl, sym, ap, ◌∙◌, arith, length-append}
use Rattle.std.specs.Prelude.{Bool, true, false, All, if◌then◌else◌, nat_lt, ◌==◌, ◌&&◌}
use Rattle.std.proofs.lemmas.Bool.{ltb-true, ltb-false}
use Rattle.std.proofs.lemmas.List.Elements.{All-cons, All-nil, All-head, All-tail, All-append}
use mathlib.Core.Path.{fun_ext}
use Rattle.sil_fraction.specs.Fraction.{Fraction, ◌+ℚ◌, ◌*ℚ◌, ◌≤ℚ◌, whole, ratio, inverse}
use Rattle.sil_fraction.specs.Sum.{total}
use Rattle.sil_fraction.proofs.Laws.{zero-add, zero-mul, mul_assoc, add_assoc, whole-mul, le_trans, mul-le-left, ratio-mul, le_from_ratio-le, whole-ratio, add_comm}
use Rattle.sil_fraction.proofs.Sums.{add-zero, mul-one, le-add_right}
use Rattle.sil_model.specs.State.{FullState}
use Rattle.sil_model.specs.Events.{events_of, flow_of, step_of, leaving_rate}
use Rattle.sil_model.specs.Sizes.{states_of}
use Rattle.sil_model.specs.Calendar.{beats_of}
use Rattle.sil_model.specs.LoopValue.{IsSubsystemInRange, groups_of}
use Rattle.sil_model.specs.Counts.{IsCounts, number_of, counts_numbered}
use Rattle.sil_model.specs.declared.parts.Subsystem.{Subsystem}
use Rattle.common_cause.specs.declared.event.Rate.{Rate}
use Rattle.common_cause.specs.declared.event.Rate.TheVariants.{Fails, Repairs}
use Rattle.common_cause.specs.declared.event.LumpEvent.{LumpEvent}
use Rattle.common_cause.specs.LumpEvents.{lump_events_of}
use Rattle.common_cause.specs.LumpedRates.{spans, counts_after, value_of}
use Rattle.common_cause.specs.declared.share.Share.{Share}
use Rattle.common_cause.specs.Shares.{IsSmallShare, share_value, share_at}
use Rattle.common_cause.proofs.Shares.{shares-small, share-counted}
use Rattle.common_cause.proofs.Flows.{rate_by, lumped_flow, flow_of_counts}
use Rattle.count_laws.proofs.Numbering.{counts_numbered-valid, number_of-counts_numbered, number_of-small}
use Rattle.model_laws.proofs.Rates.{short, some_beats}
use Rattle.product_chain.specs.declared.step.Step.{Step}
use Rattle.product_chain.specs.Steps.{joined, upper, lower, times, share, step_by, steps_over, steps_from, steps_below, IsSlow}
use Rattle.lumped_laws.specs.CountsOfState.{counts_of_state, number_of_state}
use Rattle.lumped_laws.specs.StateOfCounts.{state_numbered}
use Rattle.lumped_laws.specs.ValueLists.{tick_list, at_number}
use Rattle.lumped_laws.proofs.States.{numbered-counts}
use Rattle.common_cause.proofs.InLoop.{after-valid}
use Rattle.product_chain.proofs.Events.{IsFair, events_fair}
use Rattle.product_chain.proofs.Row.{steps_flow, joined_flow, joined_length, step_tick, Positive}
use Rattle.product_chain.proofs.Row.Positive.{none as no_step_left, one as one_positive}
use Rattle.std.proofs.Math.Nat.{mul-pos}

-- a rate with its share, as a quotient
times-value : (m : ℕ) (share : Share) (r : Rate) → 0 < share.den → 0 < lower share r → whole m *ℚ value_of (share_value share) r
    ≡ ratio (m * upper share r) (lower share r)
times-value m share (Fails n) d p =
    sym (mul_assoc (whole m) (whole n) (inverse (whole (10 ^ 18)))) ∙ ap (λ x. x *ℚ inverse (whole (10 ^ 18))) (sym (whole-mul m n))
times-value m share (Repairs n) d p =
    let some : 0 < n = factor-some n share.den p in
    let one : share.num * 1 ≡ share.num = omega arith in
    let swap : share.den * n ≡ n * share.den = omega arith in
    let both : share_value share *ℚ ratio 1 n ≡ ratio share.num (n * share.den) =
    ratio-mul share.num share.den 1 n d some ∙ cc (ap (λ a. ratio a (share.den * n)) one, ap (ratio share.num) swap) in
    rw both (sym (mul_assoc (whole m) (whole share.num) (inverse (whole (n * share.den))))
    ∙ ap (λ x. x *ℚ inverse (whole (n * share.den))) (sym (whole-mul m share.num)))
  where
    factor-some : (n d : ℕ) → 0 < n * d → 0 < n
    factor-some zero d h = absurd (omega (arith, h))
    factor-some (suc n) d h = omega arith

module _ (us : List Subsystem) (cs : List ℕ) (i : ℕ) (f : ℕ → Fraction) where
  abbrev after : List ℕ → Fraction
  after d = f (number_of (groups_of us) d)

  abbrev term : LumpEvent → Fraction
  term e = rate_by (λ k. share_value (share_at us cs k)) (spans us) cs e *ℚ after (counts_after (spans us) cs e)

  steps_flow-over : (es : List LumpEvent) (ss : List Step) → All (IsFair us) es → steps_flow (steps_over us cs i ss es) f ≡ steps_flow ss f +ℚ total term es
  steps_flow-over [] ss fair = sym (add-zero _)
  steps_flow-over (e ∷ es) ss fair =
      go (nat_lt 0 (times us cs i e)) refl (steps_flow-over es (joined ss (step_by us cs i e)) later) (steps_flow-over es ss later)
    where
      later : All (IsFair us) es
      later = All-tail (IsFair us) e es fair

      parts : IsSmallShare (share us cs i e)
      parts = shares-small us 0 cs e.subsystem

      value : whole (times us cs i e) *ℚ value_of (share_value (share us cs i e)) e.rate ≡ ratio (step_by us cs i e).num (step_by us cs i e).den
      value = times-value (times us cs i e) (share us cs i e) e.rate (omega (arith, parts.some, parts.most))
          ((All-head (IsFair us) e es fair).positive (share us cs i e) parts)

      go : (b : Bool) → nat_lt 0 (times us cs i e) ≡ b
          → steps_flow (steps_over us cs i (joined ss (step_by us cs i e)) es) f ≡ steps_flow (joined ss (step_by us cs i e)) f +ℚ total term es
          → steps_flow (steps_over us cs i ss es) f ≡ steps_flow ss f +ℚ total term es
          → steps_flow (if b then steps_over us cs i (joined ss (step_by us cs i e)) es else steps_over us cs i ss es) f ≡ steps_flow ss f
          +ℚ (term e +ℚ total term es)
      go true d with_it without =
          with_it
          ∙ ap (λ x. x +ℚ total term es) (joined_flow ss (step_by us cs i e) f ∙ ap (λ x. steps_flow ss f +ℚ x *ℚ f (step_by us cs i e).target)
          (sym value))
          ∙ add_assoc _ _ _
      go false d with_it without =
          let none : times us cs i e ≡ 0 = omega (arith, ltb-false 0 (times us cs i e) d) in
          let gone : term e ≡ whole 0 = ap (λ m. (whole m *ℚ value_of (share_value (share us cs i e)) e.rate) *ℚ after (counts_after (spans us) cs e)) none
          ∙ ap (λ x. x *ℚ after (counts_after (spans us) cs e)) (zero-mul _) ∙ zero-mul _ in
          without ∙ ap (λ x. steps_flow ss f +ℚ x) (sym (ap (λ x. x +ℚ total term es) gone ∙ zero-add _))

-- the flow from a count vector, by its steps
module _ (us : List Subsystem) (r : All IsSubsystemInRange us) (i : ℕ) where
  abbrev state : FullState
  state = state_numbered us i

  state-counts : counts_of_state us state ≡ counts_numbered (groups_of us) i
  state-counts = numbered-counts us i

  flow-steps : (f : ℕ → Fraction) → flow_of (events_of us) (at_number us f) state ≡ steps_flow (steps_from us i) f
  unfolding lumped_flow steps_from number_of_state
  flow-steps f =
      flow_of_counts us (λ c. f (number_of (groups_of us) c)) state
      ∙ ap (λ (r : ℕ → Fraction). lumped_flow r (spans us) (lump_events_of us) (λ c. f (number_of (groups_of us) c)) (counts_of_state us state))
      (fun_ext (share-counted us state))
      ∙ ap (λ (cs : List ℕ). lumped_flow (λ k. share_value (share_at us cs k)) (spans us) (lump_events_of us) (λ c. f (number_of (groups_of us) c)) cs)
      state-counts
      ∙ sym (steps_flow-over us (counts_numbered (groups_of us) i) i f (lump_events_of us) [] (events_fair us r) ∙ zero-add _)

  pub leaving-steps : leaving_rate (events_of us) state ≡ steps_flow (steps_from us i) (λ j. whole 1)
  leaving-steps = flow-steps (λ j. whole 1)

  pub tick-steps : (hours beats : ℕ) (f : ℕ → Fraction) → i < states_of us → step_tick hours beats (steps_from us i) i f ≡ tick_list us (ratio hours beats) f i
  unfolding tick_list states_of step_of number_of_state
  tick-steps hours beats f h =
      let back : number_of (groups_of us) (counts_of_state us state) ≡ i = ap (number_of (groups_of us)) state-counts
      ∙ number_of-counts_numbered (groups_of us) i h in
      sym (cc (flow-steps f, leaving-steps, ap f back))

-- what each step keeps
pub record IsStep (n i : ℕ) (s : Step) : Type 0 where
  pub source : s.source ≡ i
  pub target : s.target < n
  pub positive : 0 < s.den
  pub small : s.den ≤ 10 ^ 18

module _ (n i : ℕ) where
  joined-kept : (ss : List Step) (t : Step) → IsStep n i t → All (IsStep n i) ss → All (IsStep n i) (joined ss t)
  joined-kept [] t p all = All-cons (IsStep n i) t [] p (All-nil (IsStep n i))
  joined-kept (s ∷ ss) t p all = go (s.target == t.target && s.den == t.den) (joined-kept ss t p (All-tail (IsStep n i) s ss all))
    where
      here : IsStep n i s
      here = All-head (IsStep n i) s ss all

      go : (b : Bool) → All (IsStep n i) (joined ss t) → All (IsStep n i) (if b then record s { num = s.num + t.num } ∷ ss else s ∷ joined ss t)
      go true later = All-cons (IsStep n i) (record s { num = s.num + t.num }) ss (record {
        source = here.source;
        target = here.target;
        positive =
            here.positive;
        small = here.small;
      }) (All-tail (IsStep n i) s ss all)
      go false later = All-cons (IsStep n i) s (joined ss t) here later

module _ (us : List Subsystem) (cs : List ℕ) (v : IsCounts (groups_of us) cs) (i : ℕ) where
  over-kept : (es : List LumpEvent) (ss : List Step) → All (IsFair us) es → All (IsStep (states_of us) i) ss
      → All (IsStep (states_of us) i) (steps_over us cs i ss es)
  unfolding states_of
  over-kept [] ss fair all = all
  over-kept (e ∷ es) ss fair all =
      go (nat_lt 0 (times us cs i e)) refl (λ p. over-kept es (joined ss (step_by us cs i e)) (All-tail (IsFair us) e es fair)
      (joined-kept (states_of us) i ss (step_by us cs i e) (mine p) all)) (over-kept es ss (All-tail (IsFair us) e es fair) all)
    where
      here : IsFair us e
      here = All-head (IsFair us) e es fair

      mine : 0 < times us cs i e → IsStep (states_of us) i (step_by us cs i e)
      mine p = record {
        source = refl;
        target = number_of-small (groups_of us) _ (after-valid us cs e here.in_loop v p);
        positive = here.positive (share us cs i e) (shares-small us 0 cs e.subsystem);
        small = here.small (share us cs i e) (shares-small us 0 cs e.subsystem);
      }

      go : (b : Bool) → nat_lt 0 (times us cs i e) ≡ b
          → (0 < times us cs i e → All (IsStep (states_of us) i) (steps_over us cs i (joined ss (step_by us cs i e)) es))
          → All (IsStep (states_of us) i) (steps_over us cs i ss es)
          → All (IsStep (states_of us) i) (if b then steps_over us cs i (joined ss (step_by us cs i e)) es else steps_over us cs i ss es)
      go true d with_it without = with_it (ltb-true 0 (times us cs i e) d)
      go false d with_it without = without

module _ (us : List Subsystem) (r : All IsSubsystemInRange us) where
  pub steps-kept : (i : ℕ) → All (IsStep (states_of us) i) (steps_from us i)
  unfolding steps_from
  steps-kept i = over-kept us (counts_numbered (groups_of us) i) (counts_numbered-valid (groups_of us) i) i (lump_events_of us) [] (events_fair us r)
      (All-nil (IsStep (states_of us) i))

  pub own-source : (i : ℕ) → All (λ s. s.source ≡ i) (steps_from us i)
  own-source i k d h = (steps-kept i k d h).source

  positive-all : (n i : ℕ) (ss : List Step) → All (IsStep n i) ss → Positive ss
  positive-all n i [] all = no_step_left
  positive-all n i (s ∷ ss) all = one_positive ((All-head (IsStep n i) s ss all).positive) (positive-all n i ss (All-tail (IsStep n i) s ss all))

  pub positive : (i : ℕ) → Positive (steps_from us i)
  positive i = positive-all (states_of us) i (steps_from us i) (steps-kept i)

  -- one step is not faster than all together
  step-le : (ss : List Step) (k : ℕ) (d : Step) → k < length ss → ratio (get_or ss k d).num (get_or ss k d).den ≤ℚ steps_flow ss (λ j. whole 1)
  step-le [] k d h = absurd (omega arith)
  step-le (s ∷ ss) zero d h = rw (mul-one (ratio s.num s.den)) (le-add_right _ _)
  step-le (s ∷ ss) (suc k) d h =
      le_trans _ _ _ (step-le ss k d (omega arith)) (rw (add_comm (ratio s.num s.den *ℚ whole 1) (steps_flow ss (λ j. whole 1))) (le-add_right _ _))

  pub slow-steps : (i : ℕ) → All (λ s. IsSlow us s.num s.den) (steps_from us i)
  slow-steps i k d h = record {
    some = (steps-kept i k d h).positive;
    small = (steps-kept i k d h).small;
    slow = λ hours beats enough.
        let s : Step = get_or (steps_from us i) k d in
        let some : 0 < beats = omega (arith, some_beats us hours) in
        let law = (short us r hours beats enough).leaves (state us r i) in
        let all : ratio hours beats *ℚ steps_flow (steps_from us i) (λ j. whole 1) ≤ℚ whole 1 = rw (leaving-steps us r i) at law in
        let one : ratio hours beats *ℚ ratio s.num s.den ≤ℚ whole 1 =
        le_trans _ _ _ (mul-le-left (ratio hours beats) _ _ (step-le (steps_from us i) k d h)) all in
        let both : ratio (hours * s.num) (beats * s.den) ≤ℚ ratio 1 1 =
        rw (ratio-mul hours beats s.num s.den some ((steps-kept i k d h).positive), whole-ratio 1) at one in
        let den : 0 < beats * s.den = mul-pos some ((steps-kept i k d h).positive) in
        omega (arith, le_from_ratio-le (hours * s.num) (beats * s.den) 1 1 den (omega arith) both);
  }

  -- the same of all steps
  pub all-slow : (n : ℕ) → All (λ s. IsSlow us s.num s.den) (steps_below us n)
  unfolding steps_below
  all-slow zero = All-nil (λ (s : Step). IsSlow us s.num s.den)
  all-slow (suc n) = All-append (λ (s : Step). IsSlow us s.num s.den) (steps_below us n) (steps_from us n) (all-slow n) (slow-steps n)

  pub all-inside : (n m : ℕ) → n ≤ m → All (λ s. (s.source < m) × (s.target < states_of us)) (steps_below us n)
  unfolding steps_below
  all-inside zero m h = All-nil (λ (s : Step). (s.source < m) × (s.target < states_of us))
  all-inside (suc n) m h = All-append (λ (s : Step). (s.source < m) × (s.target < states_of us)) (steps_below us n) (steps_from us n)
      (all-inside n m (omega arith))
      (λ k d p. let q = steps-kept n k d p in (omega (arith, q.source), q.target))

  -- there are no more steps than events
  steps-length : (cs : List ℕ) (i : ℕ) (es : List LumpEvent) (ss : List Step) → length (steps_over us cs i ss es) ≤ length ss + length es
  steps-length cs i [] ss = omega arith
  steps-length cs i (e ∷ es) ss = go (nat_lt 0 (times us cs i e)) (steps-length cs i es (joined ss (step_by us cs i e))) (steps-length cs i es ss)
    where
      go : (b : Bool) → length (steps_over us cs i (joined ss (step_by us cs i e)) es) ≤ length (joined ss (step_by us cs i e)) + length es
          → length (steps_over us cs i ss es) ≤ length ss + length es
          → length (if b then steps_over us cs i (joined ss (step_by us cs i e)) es else steps_over us cs i ss es) ≤ length ss + suc (length es)
      go true p q = omega (arith, p, joined_length ss (step_by us cs i e))
      go false p q = omega (arith, q)

  pub from-length : (i : ℕ) → length (steps_from us i) ≤ length (lump_events_of us)
  unfolding steps_from
  from-length i = omega (arith, steps-length (counts_numbered (groups_of us) i) i (lump_events_of us) [])

  pub below-length : (n : ℕ) → length (steps_below us n) ≤ n * length (lump_events_of us)
  unfolding steps_below
  below-length zero = omega arith
  below-length (suc n) = omega (arith, length-append (steps_below us n) (steps_from us n), below-length n, from-length n)

  -- short beats leave a row at most 1
  pub row-short : (i hours beats : ℕ) → beats_of us hours ≤ beats → ratio hours beats *ℚ steps_flow (steps_from us i) (λ j. whole 1) ≤ℚ whole 1
  row-short i hours beats enough = rw (leaving-steps us r i) at ((short us r hours beats enough).leaves (state us r i))
