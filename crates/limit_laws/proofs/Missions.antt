-- The beats of the schedules of a loop, and the most that they pay.
use Rattle.std.proofs.Common.{◌≡◌, ℕ, zero, suc, ◌+◌, ◌-◌, ◌≤◌, Bool, true, false, List, [], ◌∷◌, ◌++◌, length, refl, sym, ap, ◌∙◌, arith, append-nil}
use Rattle.std.proofs.Math.Numerals.{add-one as nat-add-one}
use Rattle.std.specs.Prelude.{replicate, sum_by, if◌then◌else◌, slice_index_or, ◌==◌}
use Rattle.std.proofs.lemmas.List.Sums.{sum_by-cons}
use Rattle.sil_fraction.specs.Fraction.{Fraction, ◌+ℚ◌, whole, ratio}
use Rattle.sil_fraction.proofs.Laws.{add_assoc, zero-add, whole-add}
use Rattle.sil_fraction.proofs.Sums.{add-zero}
use Rattle.sil_model.specs.Calendar.{Phase, phases_of, test_hours_of, tests_at, beats_of}
use Rattle.sil_model.specs.Sizes.{all_beats_of}
use Rattle.sil_model.specs.Pay.{Item, beats_items, items_from, items_until, schedule_of, schedule_of_phase, schedule_until}
use Rattle.sil_model.specs.Pay.Item.{Beat, Tests}
use Rattle.sil_model.specs.Pay.Mode.{Down, Entry, AtEnd}
use Rattle.sil_model.specs.Figures.{no_phase}
use Rattle.sil_model.specs.LoopValue.{LoopValue}
use Rattle.sil_model.specs.declared.parts.Subsystem.{Subsystem}
use Rattle.model_laws.specs.Hours.{hours_of}
use Rattle.schedule_laws.proofs.PhaseList.{length-phases}
use Rattle.schedule_laws.proofs.ScheduleHours.{hours_of_mission, hours_of_phase}
use Rattle.limit_laws.specs.Bounds.{beat_count, most_of}

-- beats of one length before other items
module _ (h : Fraction) (rest : List Item) where
  count-beats : (counts : Bool) (n : ℕ) → beat_count (replicate n (Beat h counts) ++ rest) ≡ n + beat_count rest
  unfolding beat_count
  count-beats counts zero = omega arith
  count-beats counts (suc n) = omega (arith, count-beats counts n)

  entries-beats : (n : ℕ) → most_of Entry (replicate n (Beat h true) ++ rest) ≡ most_of Entry rest +ℚ whole n
  unfolding most_of
  entries-beats zero = sym (add-zero _)
  entries-beats (suc n) =
      ap (λ s. s +ℚ whole 1) (entries-beats n) ∙ add_assoc (most_of Entry rest) (whole n) (whole 1)
      ∙ ap (λ s. most_of Entry rest +ℚ s) (sym (whole-add n 1) ∙ ap whole (nat-add-one n))

-- the most that a schedule is down are the hours that count
most-hours : (items : List Item) → most_of Down items ≡ hours_of items
unfolding most_of hours_of
most-hours [] = refl
most-hours (Beat h counts ∷ rest) = ap (λ s. s +ℚ (if counts then h else whole 0)) (most-hours rest)
most-hours (Tests ts ∷ rest) = add-zero _ ∙ most-hours rest

module _ (l : LoopValue) where
  abbrev us : List Subsystem
  us = l.subsystems

  abbrev beats_in : Phase → ℕ
  beats_in p = beats_of us p.hours

  count-phase : (counts : Bool) (p : Phase) (rest : List Item) → beat_count (beats_items us counts p.hours ++ rest) ≡ beats_in p + beat_count rest
  count-phase counts p rest = count-beats (ratio p.hours (beats_in p)) rest counts (beats_in p)

  count-last : (counts : Bool) (p : Phase) → beat_count (beats_items us counts p.hours) ≡ beats_in p
  unfolding beat_count
  count-last counts p = ap beat_count (sym (append-nil (beats_items us counts p.hours))) ∙ count-phase counts p [] ∙ omega arith

  -- the beats of phases, whichever count
  count-items : (counts : ℕ → Bool) (q : ℕ) (ps : List Phase) → beat_count (items_from l counts q ps) ≡ sum_by beats_in ps
  unfolding beat_count
  count-items counts q [] = refl
  count-items counts q (p ∷ []) = count-last (counts q) p ∙ omega (arith, sum_by-cons beats_in p [])
  count-items counts q (p ∷ (next ∷ more)) =
      count-phase (counts q) p (Tests (tests_at l next.start) ∷ items_from l counts (suc q) (next ∷ more))
      ∙ ap (λ n. beats_in p + n) (count-items counts (suc q) (next ∷ more)) ∙ sym (sum_by-cons beats_in p (next ∷ more))

  -- and those up to the end of a phase
  count-until : (q : ℕ) (ps : List Phase) → beat_count (items_until l q ps) ≤ sum_by beats_in ps
  unfolding beat_count
  count-until q [] = omega arith
  count-until zero (p ∷ more) = omega (arith, count-last true p, sum_by-cons beats_in p more)
  count-until (suc q) (p ∷ []) = omega (arith, count-last true p, sum_by-cons beats_in p [])
  count-until (suc q) (p ∷ (next ∷ more)) =
      omega (
        arith,
        count-phase true p (Tests (tests_at l next.start) ∷ items_until l q (next ∷ more)),
        count-until q (next ∷ more),
        sum_by-cons beats_in p (next ∷ more),
      )

  -- the beats and the hours of tests between phases
  entries-items : (q : ℕ) (ps : List Phase) → most_of Entry (items_from l (λ q. true) q ps) ≡ whole (sum_by beats_in ps + (length ps - 1))
  unfolding most_of
  entries-items q [] = refl
  entries-items q (p ∷ []) =
      ap (most_of Entry) (sym (append-nil (beats_items us true p.hours))) ∙ entries-beats (ratio p.hours (beats_in p)) [] (beats_in p)
      ∙ zero-add _ ∙ ap whole (omega (arith, sum_by-cons beats_in p []))
  entries-items q (p ∷ (next ∷ more)) =
      let n : ℕ = beats_in p in
      entries-beats (ratio p.hours n) (Tests (tests_at l next.start) ∷ items_from l (λ q. true) (suc q) (next ∷ more)) n
      ∙ ap (λ s. (s +ℚ whole 1) +ℚ whole n) (entries-items (suc q) (next ∷ more))
      ∙ ap (λ s. s +ℚ whole n) (sym (whole-add _ 1)) ∙ sym (whole-add _ n)
      ∙ ap whole (omega (arith, sum_by-cons beats_in p (next ∷ more)))

-- what is paid at the end is at most 1
pub end-items : (items : List Item) → most_of AtEnd items ≡ whole 1
unfolding most_of
end-items [] = refl
end-items (Beat h true ∷ rest) = add-zero _ ∙ end-items rest
end-items (Beat h false ∷ rest) = add-zero _ ∙ end-items rest
end-items (Tests ts ∷ rest) = add-zero _ ∙ end-items rest

module _ (l : LoopValue) where
  -- the beats of the whole mission
  pub count-schedule : beat_count (schedule_of l) ≡ all_beats_of l
  unfolding schedule_of all_beats_of
  count-schedule = count-items l (λ p. true) 0 (phases_of l)

  -- the most that it can be down
  pub hours-schedule : most_of Down (schedule_of l) ≡ whole l.mission
  hours-schedule = most-hours (schedule_of l) ∙ hours_of_mission l

  -- the most that it can go down
  pub entries-schedule : most_of Entry (schedule_of l) ≡ whole (all_beats_of l + length (test_hours_of l))
  unfolding schedule_of all_beats_of phases_of
  entries-schedule = entries-items l 0 (phases_of l) ∙ ap whole (omega (arith, length-phases l.mission 0 (test_hours_of l)))

  -- the same where one phase counts, and up to the end of a phase
  pub count-schedule_of_phase : (p : ℕ) → beat_count (schedule_of_phase l p) ≡ all_beats_of l
  unfolding schedule_of_phase all_beats_of
  count-schedule_of_phase p = count-items l (λ q. q == p) 0 (phases_of l)

  pub hours-schedule_of_phase : (p : ℕ) → most_of Down (schedule_of_phase l p) ≡ whole (slice_index_or (phases_of l) p no_phase).hours
  hours-schedule_of_phase p = most-hours (schedule_of_phase l p) ∙ hours_of_phase l p

  pub count-schedule_until : (p : ℕ) → beat_count (schedule_until l p) ≤ all_beats_of l
  unfolding schedule_until all_beats_of
  count-schedule_until p = count-until l p (phases_of l)
