-- The uniformised step of a function of the counts is the tick of its value list, and its beats are those of the list.
use Rattle.std.proofs.Common.{◌≡◌, ℕ, List, [], ◌∷◌, refl, ap, ◌∙◌}
use Rattle.std.specs.Prelude.{All, if◌then◌else◌}
use Rattle.std.proofs.lemmas.List.Elements.{All-head, All-tail}
use mathlib.Core.Path.{fun_ext}
use Rattle.sil_fraction.specs.Fraction.{Fraction, ◌+ℚ◌, ◌*ℚ◌, whole}
use Rattle.sil_fraction.specs.Sum.{total}
use Rattle.sil_model.specs.State.{FullState, is_same_state}
use Rattle.sil_model.specs.Events.{Event, events_of, through, flow_of, step_of}
use Rattle.sil_model.specs.Series.{Values, beat_of, mean_of}
use Rattle.sil_model.specs.declared.parts.Subsystem.{Subsystem}
use Rattle.count_laws.specs.SameCounts.{IsFull}
use Rattle.count_laws.proofs.SameCounts.{IsSteady}
use Rattle.count_laws.proofs.Flows.{step-exchange}
use Rattle.lumped_laws.specs.CountsOfState.{number_of_state}
use Rattle.lumped_laws.specs.ValueLists.{at_number, tick_list, beat_list, mean_list}
use Rattle.lumped_laws.specs.Listed.{Carries, CarryLaw}
use Rattle.lumped_laws.proofs.States.{IsSame, events-full}
use Rattle.lumped_laws.proofs.Steady.{at-its-number, number-exchange}
use Rattle.count_laws.proofs.Carried.{times-carries, beat-carries, mean-carries}

-- values that are the same at each state that an event leads to
total_through : (es : List Event) (f g : Values FullState) (s : FullState) → All (λ (e : Event). f (e.move s) ≡ g (e.move s)) es
    → total (through f s) es ≡ total (through g s) es
total_through [] f g s h = refl
total_through (e ∷ es) f g s h =
    let P : Event → Type 0 = λ d. f (d.move s) ≡ g (d.move s) in
    let here : through f s e ≡ through g s e =
    ap (λ x. if is_same_state (e.move s) s then whole 0 else e.rate s *ℚ x) (All-head P e es h) in
    let rest : total (through f s) es ≡ total (through g s) es = total_through es f g s (All-tail P e es h) in
    ap (λ x. x +ℚ total (through f s) es) here ∙ ap (λ x. through g s e +ℚ x) rest

module _ (us : List Subsystem) where
  -- a step from a full state asks full states alone
  pub step-full : (h : Fraction) (f g : Values FullState) → IsSame us f g → IsSame us (step_of (events_of us) h f) (step_of (events_of us) h g)
  unfolding step_of flow_of
  step-full h f g same s full =
      let flow : total (through f s) (events_of us) ≡ total (through g s) (events_of us) =
      total_through (events_of us) f g s (λ k d l. same _ (events-full us k d l s full)) in
      let here : f s ≡ g s = same s full in
      rw (flow, here) refl

  -- a value list is steady
  pub list-steady : (g : Values ℕ) → IsSteady us (at_number us g)
  list-steady g i p s = ap g (number-exchange us i p s)

  step-steady : (h : Fraction) (g : Values ℕ) → IsSteady us (step_of (events_of us) h (at_number us g))
  step-steady h g i p s =
      step-exchange us i p h (at_number us g) s
      ∙ ap (λ (f : Values FullState). step_of (events_of us) h f s) (fun_ext (list-steady g i p))

  pub step-listed : (h : Fraction) → Carries us (step_of (events_of us) h) (tick_list us h)
  unfolding tick_list
  step-listed h f g listed s full =
      step-full h f (at_number us g) listed s full
      ∙ at-its-number us (step_of (events_of us) h (at_number us g)) (step-steady h g) s full

  module _ (h : Fraction) where
    abbrev step : Values FullState → Values FullState
    step = step_of (events_of us) h

    pub beat-listed : (n : ℕ) → Carries us (beat_of step n) (beat_list us n h)
    beat-listed = beat-carries (IsFull us) (number_of_state us) step (tick_list us h) (step-listed h)

    pub mean-listed : (n : ℕ) → Carries us (mean_of step n) (mean_list us n h)
    mean-listed = mean-carries (IsFull us) (number_of_state us) step (tick_list us h) (step-listed h)

    pub carry_laws : CarryLaw us h
    carry_laws = record {
      step = step-listed h;
      steps = times-carries (IsFull us) (number_of_state us) step (tick_list us h) (step-listed h);
      beat = beat-listed;
      mean = mean-listed;
      beats = λ n. times-carries (IsFull us) (number_of_state us) (beat_of step n) (beat_list us n h) (beat-listed n);
    }
