-- The hours that count in the schedule of a mission, and in the schedule in which one phase counts.
use Rattle.std.proofs.Common.{◌≡◌, ℕ, Bool, zero, suc, ◌+◌, ◌*◌, ◌<◌, true, false, inl, inr, List, [], ◌∷◌, ◌++◌, get_or, replicate, refl, sym, ap, ◌∙◌, arith, add-one, ne_eqb}
use Rattle.std.specs.Prelude.{sum_by, if◌then◌else◌, ◌==◌}
use Rattle.std.proofs.lemmas.Bool.Decides.{eqb_tells}
use Rattle.std.proofs.lemmas.List.Sums.{sum_by-cons}
use Rattle.sil_fraction.specs.Fraction.{Fraction, ◌+ℚ◌, ◌*ℚ◌, whole, ratio}
use Rattle.sil_fraction.proofs.Laws.{add_comm, add_assoc, zero-add, zero-mul, one-mul, whole-add, whole-ratio, ratio-same}
use Rattle.sil_fraction.proofs.Sums.{add-zero, add-mul}
use Rattle.sil_model.specs.Calendar.{ChannelTest, Phase, phases_of, beats_of}
use Rattle.sil_model.specs.Pay.{Item, beats_items, items_from, schedule_of, schedule_of_phase}
use Rattle.sil_model.specs.Pay.Item.{Beat, Tests}
use Rattle.sil_model.specs.Figures.{no_phase}
use Rattle.sil_model.specs.LoopValue.{LoopValue}
use Rattle.sil_model.specs.declared.parts.Subsystem.{Subsystem}
use Rattle.model_laws.specs.Hours.{hours_of}
use Rattle.model_laws.proofs.Rates.{over-mul, some_beats}
use Rattle.schedule_laws.proofs.PhasesOfLoop.{phases_of_fill}

both_hours : (done left : List Item) → hours_of (done ++ left) ≡ hours_of done +ℚ hours_of left
unfolding hours_of
both_hours [] left = sym (zero-add _)
both_hours (Beat h counts ∷ done) left =
    let own : Fraction = if counts then h else whole 0 in
    ap (λ x. x +ℚ own) (both_hours done left) ∙ add_assoc (hours_of done) (hours_of left) own
    ∙ ap (λ x. hours_of done +ℚ x) (add_comm (hours_of left) own) ∙ sym (add_assoc (hours_of done) own (hours_of left))
both_hours (Tests ts ∷ done) left = both_hours done left

hours-tests : (ts : List ChannelTest) (rest : List Item) → hours_of (Tests ts ∷ rest) ≡ hours_of rest
unfolding hours_of
hours-tests ts rest = refl

repeated_hours : (n : ℕ) (h : Fraction) → hours_of (replicate n (Beat h true)) ≡ whole n *ℚ h
unfolding hours_of
repeated_hours zero h = sym (zero-mul h)
repeated_hours (suc n) h = rw (← add-one n, whole-add, add-mul, one-mul) (ap (λ x. x +ℚ h) (repeated_hours n h))

repeated_idle : (n : ℕ) (h : Fraction) → hours_of (replicate n (Beat h false)) ≡ whole 0
unfolding hours_of
repeated_idle zero h = refl
repeated_idle (suc n) h = add-zero _ ∙ repeated_idle n h

module _ (us : List Subsystem) (t : ℕ) where
  beats_hours : hours_of (beats_items us true t) ≡ whole t
  beats_hours =
      let n : ℕ = beats_of us t in
      let some : 0 < n = some_beats us t in
      repeated_hours n (ratio t n) ∙ over-mul n t n ∙ ratio-same (n * t) n t 1 some (omega arith) (omega arith) ∙ sym (whole-ratio t)

  beats_idle : hours_of (beats_items us false t) ≡ whole 0
  beats_idle = repeated_idle (beats_of us t) _

module _ (l : LoopValue) where
  abbrev own_hours : Phase → ℕ
  own_hours phase = phase.hours

  abbrev beats : Bool → Phase → List Item
  beats counts phase = beats_items l.subsystems counts phase.hours

  all_hours : (p : ℕ) (phases : List Phase) → hours_of (items_from l (λ q. true) p phases) ≡ whole (sum_by own_hours phases)
  all_hours p [] = unfold hours_of in refl
  all_hours p (phase ∷ []) = rw (sum_by-cons own_hours phase [], beats_hours l.subsystems phase.hours) (ap whole (omega arith))
  all_hours p (phase ∷ (next ∷ more)) =
      rw (sum_by-cons own_hours phase (next ∷ more), whole-add)
      (both_hours (beats true phase) _
      ∙ rw (beats_hours l.subsystems phase.hours, hours-tests, all_hours (suc p) (next ∷ more)) refl)

  module _ (p : ℕ) where
    -- phases behind the one that counts
    abbrev items : ℕ → List Phase → List Item
    items i phases = items_from l (λ q. q == p) i phases

    behind : (i : ℕ) (phases : List Phase) → p < i → hours_of (items i phases) ≡ whole 0
    behind i [] h = unfold hours_of in refl
    behind i (phase ∷ []) h = rw (ne_eqb i p (λ e. absurd (omega arith))) (beats_idle l.subsystems phase.hours)
    behind i (phase ∷ (next ∷ more)) h =
        both_hours (beats (i == p) phase) _
        ∙ rw (ne_eqb i p (λ e. absurd (omega arith)), beats_idle l.subsystems phase.hours, hours-tests)
        (rw (behind (suc i) (next ∷ more) (omega arith)) (zero-add _))

    one_phase : (i k : ℕ) (phases : List Phase) → i + k ≡ p → hours_of (items i phases) ≡ whole (get_or phases k no_phase).hours
    one_phase i k [] e = unfold hours_of in refl
    one_phase i zero (phase ∷ []) e = elim (eqb_tells i p) [
      | inl t ↦ rw (t.0) (beats_hours l.subsystems phase.hours)
      | inr t ↦ absurd (t.1 (omega arith))
    ]
    one_phase i zero (phase ∷ (next ∷ more)) e = elim (eqb_tells i p) [
      | inl t ↦ both_hours (beats (i == p) phase) _
          ∙ rw (t.0, beats_hours l.subsystems phase.hours, hours-tests, behind (suc i) (next ∷ more) (omega arith)) (add-zero _)
      | inr t ↦ absurd (t.1 (omega arith))
    ]
    one_phase i (suc k) (phase ∷ []) e = rw (ne_eqb i p (λ g. absurd (omega arith))) (beats_idle l.subsystems phase.hours)
    one_phase i (suc k) (phase ∷ (next ∷ more)) e =
        both_hours (beats (i == p) phase) _
        ∙ rw (ne_eqb i p (λ g. absurd (omega arith)), beats_idle l.subsystems phase.hours, hours-tests)
        (rw (one_phase (suc i) k (next ∷ more) (omega arith)) (zero-add _))

  pub hours_of_mission : hours_of (schedule_of l) ≡ whole l.mission
  unfolding schedule_of
  hours_of_mission = all_hours 0 (phases_of l) ∙ ap whole (phases_of_fill l)

  -- there are no hours in a phase that there is not
  pub hours_of_phase : (p : ℕ) → hours_of (schedule_of_phase l p) ≡ whole (get_or (phases_of l) p no_phase).hours
  unfolding schedule_of_phase
  hours_of_phase p = one_phase p 0 p (phases_of l) (omega arith)
