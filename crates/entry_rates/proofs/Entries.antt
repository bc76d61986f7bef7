-- The rate at which a full state is entered down, by the events between count vectors.
use Rattle.std.proofs.Common.{◌≡◌, ℕ, ◌*◌, ◌^◌, ◌<◌, inl, inr, List, [], ◌∷◌, length, get_or, refl, sym, ap, ◌∙◌, arith}
use Rattle.std.specs.Prelude.{Bool, true, false, ◌&&◌, not, cond, filter, if◌then◌else◌, All}
use Rattle.std.proofs.lemmas.Bool.{cases_lt}
use Rattle.std.proofs.lemmas.List.Elements.{All-head, All-tail}
use Rattle.sil_fraction.specs.Fraction.{Fraction, ◌+ℚ◌, ◌*ℚ◌, whole, ratio}
use Rattle.sil_fraction.specs.Sum.{total}
use Rattle.sil_fraction.proofs.Laws.{zero-add, zero-mul}
use Rattle.sil_fraction.proofs.Sums.{mul-one, mul-zero, whole-positive}
use Rattle.sil_model.specs.State.{FullState, is_same_state, is_same_chan, is_up_of}
use Rattle.sil_model.specs.Events.{Event, events_of, move_one, through, flow_of}
use Rattle.sil_model.specs.Pay.{one_if, payoff_of}
use Rattle.sil_model.specs.Pay.Mode.{Entry}
use Rattle.sil_model.specs.LoopValue.{groups_of}
use Rattle.sil_model.specs.Counts.{IsCounts, count_in, moved_in}
use Rattle.sil_model.specs.declared.parts.Chan.TheVariants.{Work, Repair}
use Rattle.sil_model.specs.declared.parts.Subsystem.{Subsystem}
use Rattle.model_laws.proofs.Rates.{over-add, over-mul}
use Rattle.count_laws.specs.SameCounts.{IsFull}
use Rattle.count_laws.proofs.Exchange.{length-one}
use Rattle.count_laws.proofs.Pairs.{up-exchange}
use Rattle.count_laws.proofs.SameCounts.{steady_value}
use Rattle.channel_counts.proofs.Channels.{same_is}
use Rattle.lumped_laws.specs.CountsOfState.{counts_of_state}
use Rattle.lumped_laws.specs.StateLaws.{KeepsFull}
use Rattle.lumped_laws.specs.StateOfCounts.{state_of_counts}
use Rattle.lumped_laws.proofs.States.{counts-back, counts-valid, state-full, same-counts, events-full}
use Rattle.common_cause.specs.declared.event.Rate.{Rate}
use Rattle.common_cause.specs.declared.event.Rate.TheVariants.{Fails, Repairs}
use Rattle.common_cause.specs.declared.event.LumpEvent.{LumpEvent}
use Rattle.common_cause.specs.LumpEvents.{lump_events_of}
use Rattle.common_cause.specs.LumpedRates.{spans, times_of, counts_after, rate_at}
use Rattle.common_cause.proofs.Laws.{rates_lumped}
use Rattle.entry_rates.specs.Entered.{is_up_by, rate_down, rates_down, failure_units_of}
use Rattle.entry_rates.proofs.Returns.{IsRepaired, repaired}
use Rattle.entry_rates.proofs.Repairs.{up_repaired}
use Rattle.entry_rates.proofs.Known.{IsKnown, IsRepair, events-known}

-- sums of terms that are the same, and of those that pass a test
total-same : {A : Type 0} (xs : List A) (f g : A → Fraction) → All (λ x. f x ≡ g x) xs → total f xs ≡ total g xs
total-same [] f g h = refl
total-same (x ∷ xs) f g h =
    let first : f x ≡ g x = All-head (λ y. f y ≡ g y) x xs h in
    let rest : total f xs ≡ total g xs = total-same xs f g (All-tail (λ y. f y ≡ g y) x xs h) in
    cc

total-filter : {A : Type 0} (f : A → Fraction) (p : A → Bool) (xs : List A) → total f (filter p xs) ≡ total (λ x. cond (p x) (f x) (whole 0)) xs
total-filter f p [] = refl
total-filter {A = A} f p (x ∷ xs) = go (p x) (total-filter f p xs)
  where
    passed : Fraction
    passed = total (λ (y : A). cond (p y) (f y) (whole 0)) xs

    go : (b : Bool) → total f (filter p xs) ≡ passed → total f (cond b (x ∷ filter p xs) (filter p xs)) ≡ cond b (f x) (whole 0) +ℚ passed
    go true rest = ap (λ t. f x +ℚ t) rest
    go false rest = rest ∙ sym (zero-add _)

-- a test is known by its number
one_if_same : (a b : Bool) → one_if a ≡ one_if b → a ≡ b
one_if_same true true e = refl
one_if_same false false e = refl
one_if_same true false e = absurd (whole-positive 1 (omega arith) e)
one_if_same false true e = absurd (whole-positive 1 (omega arith) (sym e))

state_is : (s t : FullState) → is_same_state s t ≡ true → s ≡ t
unfolding is_same_state
state_is [] [] h = refl
state_is [] (b ∷ t) h = cc
state_is (a ∷ s) [] h = cc
state_is (a ∷ s) (b ∷ t) h = go (is_same_chan a b) refl (state_is s t) h
  where
    go : (c : Bool) → is_same_chan a b ≡ c → (is_same_state s t ≡ true → s ≡ t) → (c && is_same_state s t) ≡ true → (a ∷ s) ≡ (b ∷ t)
    go true e rest k = cc (same_is a b e, rest k)
    go false e rest k = cc

module _ (us : List Subsystem) where
  -- the counts of a full state tell whether it is up
  pub up_by_counts : (s : FullState) → IsFull us s → is_up_by us (counts_of_state us s) ≡ is_up_of us s
  up_by_counts s full =
      let v : IsCounts (groups_of us) (counts_of_state us s) = counts-valid us s full in
      let t : FullState = state_of_counts (groups_of us) (counts_of_state us s) in
      one_if_same _ _
      (steady_value us (λ x. one_if (is_up_of us x)) (λ i p x. ap one_if (up-exchange us i p x)) t s
      (same-counts us t s (state-full us (counts_of_state us s) v) full (counts-back us (counts_of_state us s) v)))

  module _ (s : FullState) (full : IsFull us s) (up : is_up_of us s ≡ true) where
    abbrev cs : List ℕ
    cs = counts_of_state us s

    abbrev leads_down : List ℕ → Bool
    leads_down c = not (is_up_by us c)

    -- a term of the flow into states that are down
    down_term : (e : Event) → KeepsFull us e
        → through (λ t. one_if (not (is_up_of us t))) s e ≡ cond (leads_down (counts_of_state us (e.move s))) (e.rate s) (whole 0)
    down_term e keeps = rw (up_by_counts (e.move s) (keeps s full)) (go (is_same_state (e.move s) s) refl (is_up_of us (e.move s)) refl)
      where
        go : (b : Bool) → is_same_state (e.move s) s ≡ b → (c : Bool) → is_up_of us (e.move s) ≡ c
            → cond b (whole 0) (e.rate s *ℚ one_if (not c)) ≡ cond (not c) (e.rate s) (whole 0)
        go true d true k = refl
        go true d false k = cc (ap (is_up_of us) (state_is (e.move s) s d), up)
        go false d true k = mul-zero (e.rate s)
        go false d false k = mul-one (e.rate s)

    -- a repair leads down at no rate
    none : (e : LumpEvent) → IsKnown us e → (n : ℕ) → e.rate ≡ Repairs n → is_up_by us (counts_after (spans us) cs e) ≡ false
        → rate_at us s e ≡ whole 0
    none e known n is down =
        let r : IsRepair e = known.repair n is in
        let times : times_of (spans us) cs e ≡ count_in cs e.group Repair = rw (r.alone, r.from) refl in
        let after : counts_after (spans us) cs e ≡ moved_in cs e.group Repair Work 1 = rw (r.alone, r.from, r.to) refl in
        let inside : e.group < length (groups_of us) = omega (arith, rw r.alone at known.in_loop.groups) in
        elim (cases_lt 0 (count_in cs e.group Repair)) [
          | inl some ↦
              let x : IsRepaired us s e.group = repaired us s e.group inside some in
              let full_after : IsFull us (move_one x.channel Repair Work s) = length-one Repair Work x.channel s ∙ full in
              let up_after : is_up_by us (counts_of_state us (move_one x.channel Repair Work s)) ≡ true =
              up_by_counts _ full_after ∙ up_repaired us x.channel s up in
              cc (after, x.counts)
          | inr few ↦
              let zero_times : times_of (spans us) cs e ≡ 0 = omega arith in
              rw zero_times (zero-mul _)
        ]

    lumped_term : (e : LumpEvent) → IsKnown us e
        → cond (leads_down (counts_after (spans us) cs e)) (rate_at us s e) (whole 0) ≡ ratio (rate_down us cs e) (10 ^ 18)
    lumped_term e known = go e.rate refl (is_up_by us (counts_after (spans us) cs e)) refl
      where
        go : (r : Rate) → e.rate ≡ r → (b : Bool) → is_up_by us (counts_after (spans us) cs e) ≡ b
            → cond (not b) (rate_at us s e) (whole 0) ≡ ratio (if b then 0 else times_of (spans us) cs e * failure_units_of e.rate) (10 ^ 18)
        go r is true d = sym (zero-mul _)
        go (Fails n) is false d = rw is (over-mul (times_of (spans us) cs e) n (10 ^ 18))
        go (Repairs n) is false d =
            let nothing : times_of (spans us) cs e * failure_units_of e.rate ≡ 0 = rw is (omega arith) in
            rw nothing (none e known n is d ∙ sym (zero-mul _))

    lumped_total : (es : List LumpEvent) → total (λ e. ratio (rate_down us cs e) (10 ^ 18)) es ≡ ratio (rates_down us cs es) (10 ^ 18)
    lumped_total [] = sym (zero-mul _)
    lumped_total (e ∷ es) = ap (λ x. ratio (rate_down us cs e) (10 ^ 18) +ℚ x) (lumped_total es) ∙ over-add _ _ _

    pub entered-up : payoff_of us Entry s ≡ ratio (rates_down us cs (lump_events_of us)) (10 ^ 18)
    unfolding payoff_of flow_of
    entered-up =
        let q : LumpEvent → Bool = λ e. leads_down (counts_after (spans us) cs e) in
        let r : Event → Bool = λ e. leads_down (counts_of_state us (e.move s)) in
        let own : leads_down cs ≡ false = rw (up_by_counts s full, up) refl in
        rw up
        (total-same (events_of us) _ _ (λ k d h. down_term (get_or (events_of us) k d) (events-full us k d h))
        ∙ sym (total-filter (λ (e : Event). e.rate s) r (events_of us))
        ∙ sym (rates_lumped us s leads_down own)
        ∙ total-filter (rate_at us s) q (lump_events_of us)
        ∙ total-same (lump_events_of us) _ _ (λ k d h. lumped_term (get_or (lump_events_of us) k d) (events-known us k d h))
        ∙ lumped_total (lump_events_of us))
