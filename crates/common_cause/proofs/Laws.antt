-- The events between count vectors have the rates of the events of the loop.
use Rattle.std.proofs.Common.{◌≡◌, List, [], ◌∷◌, refl, sym, ap, ◌∙◌}
use Rattle.std.specs.Prelude.{Bool, true, false, ◌&&◌, cond, filter, if◌then◌else◌}
use mathlib.Core.Path.{fun_ext}
use Rattle.sil_fraction.specs.Fraction.{Fraction, ◌+ℚ◌, ◌*ℚ◌, whole}
use Rattle.sil_fraction.specs.Sum.{total}
use Rattle.sil_fraction.proofs.Laws.{zero-add}
use Rattle.sil_fraction.proofs.Sums.{mul-one, mul-zero}
use Rattle.sil_model.specs.State.{FullState, is_same_state, is_same_chan}
use Rattle.sil_model.specs.Events.{Event, events_of, flow_of}
use Rattle.sil_model.specs.declared.parts.Subsystem.{Subsystem}
use Rattle.lumped_laws.specs.CountsOfState.{counts_of_state}
use Rattle.channel_counts.proofs.Channels.{same_is}
use Rattle.common_cause.specs.declared.event.LumpEvent.{LumpEvent}
use Rattle.common_cause.specs.LumpEvents.{lump_events_of}
use Rattle.common_cause.specs.LumpedRates.{spans, counts_after, rate_at, HasLumpedRates}
use Rattle.common_cause.proofs.Flows.{lumped_flow, flow_of_counts}

abbrev one_if : Bool → Fraction
one_if b = if b then whole 1 else whole 0

-- a sum over those that pass
total-filter : {A : Type 0} (f : A → Fraction) (p : A → Bool) (xs : List A) → total f (filter p xs) ≡ total (λ x. cond (p x) (f x) (whole 0)) xs
total-filter f p [] = refl
total-filter f p (x ∷ xs) = elim (p x) as (λ b. total f (cond b (x ∷ filter p xs) (filter p xs)) ≡ cond b (f x) (whole 0)
    +ℚ total (λ x. cond (p x) (f x) (whole 0)) xs) [
      | true ↦ ap (λ t. f x +ℚ t) (total-filter f p xs)
      | false ↦ total-filter f p xs ∙ sym (zero-add _)
    ]

state_is : (s t : FullState) → is_same_state s t ≡ true → s ≡ t
unfolding is_same_state
state_is [] [] h = refl
state_is [] (b ∷ t) h = cc
state_is (a ∷ s) [] h = cc
state_is (a ∷ s) (b ∷ t) h = go (is_same_chan a b) refl (state_is s t) h
  where
    go : (c : Bool) → is_same_chan a b ≡ c → (is_same_state s t ≡ true → s ≡ t) → (c && is_same_state s t) ≡ true → (a ∷ s) ≡ (b ∷ t)
    go true e rest k = cc (same_is a b e, rest k)
    go false e rest k = cc

times_one_if : (b : Bool) (x : Fraction) → x *ℚ one_if b ≡ cond b x (whole 0)
times_one_if true x = mul-one x
times_one_if false x = mul-zero x

module _ (us : List Subsystem) where
  -- the flow into the states that pass a test, which the state itself does not
  flow_into : (q : FullState → Bool) (s : FullState) → q s ≡ false → flow_of (events_of us) (λ t. one_if (q t)) s
      ≡ total (λ (e : Event). e.rate s) (filter (λ (e : Event). q (e.move s)) (events_of us))
  unfolding flow_of
  flow_into q s h =
      ap (λ (t : Event → Fraction). total t (events_of us)) (fun_ext (λ e. go e (is_same_state (e.move s) s) refl))
      ∙ sym (total-filter (λ (e : Event). e.rate s) (λ (e : Event). q (e.move s)) (events_of us))
    where
      go : (e : Event) (b : Bool) → is_same_state (e.move s) s ≡ b → cond b (whole 0) (e.rate s *ℚ one_if (q (e.move s)))
          ≡ cond (q (e.move s)) (e.rate s) (whole 0)
      go e true k = rw (ap q (state_is (e.move s) s k) ∙ h) refl
      go e false k = times_one_if (q (e.move s)) (e.rate s)

  pub rates_lumped : HasLumpedRates us (lump_events_of us)
  unfolding lumped_flow
  rates_lumped s p h =
      total-filter (rate_at us s) (λ e. p (counts_after (spans us) (counts_of_state us s) e)) (lump_events_of us)
      ∙ ap (λ (t : LumpEvent → Fraction). total t (lump_events_of us))
      (fun_ext (λ e. sym (times_one_if (p (counts_after (spans us) (counts_of_state us s) e)) (rate_at us s e))))
      ∙ sym (flow_of_counts us (λ c. one_if (p c)) s)
      ∙ flow_into (λ t. p (counts_of_state us t)) s h
