-- The time down and the time up come to the mission; the entries and what is left of them to the greatest rate over the
-- mission and one passage at each test hour.
use Rattle.std.proofs.Common.{◌≡◌, ℕ, zero, suc, ◌+◌, true, false, List, [], ◌∷◌, ◌++◌, length, replicate, refl, ap, ◌∙◌, arith}
use Rattle.std.specs.Prelude.{Bool, not, ◌&&◌}
use Rattle.sil_fraction.specs.Fraction.{Fraction, ◌+ℚ◌, ◌*ℚ◌, ◌≤ℚ◌, whole, ratio}
use Rattle.sil_fraction.proofs.Laws.{add_comm, sub-add, zero-add, le_refl, le_trans, le_of_same, zero-le}
use Rattle.sil_fraction.proofs.Sums.{add-zero, mul-one, mul-zero}
use Rattle.sil_model.specs.State.{is_up_of}
use Rattle.sil_model.specs.Series.{Values}
use Rattle.sil_model.specs.Calendar.{ChannelTest, Phase, phases_of, test_hours_of, tests_at, beats_of}
use Rattle.sil_model.specs.LoopValue.{LoopValue, IsValid}
use Rattle.sil_model.specs.Pay.{Item, payoff_of, last_of, items_from, schedule_of, one_if}
use Rattle.sil_model.specs.Pay.Item.{Beat, Tests}
use Rattle.sil_model.specs.Pay.Mode.{Down, Up, Entry}
use Rattle.sil_model.specs.declared.parts.Subsystem.{Subsystem}
use Rattle.model_laws.specs.Hours.{hours_of, AreShort, AreChances}
use Rattle.schedule_laws.proofs.PhasesOfLoop.{length-phases_of}
use Rattle.lumped_laws.specs.ValueLists.{passing, passing_list}
use Rattle.lumped_laws.specs.StateOfCounts.{state_numbered}
use Rattle.lumped_laws.specs.PayList.{payoff_list, pay_list}
use Rattle.lumped_laws.proofs.LinearLists.{after-grows, after-constant}
use Rattle.schedule_laws.proofs.ShortSchedules.{short_mission}
use Rattle.schedule_laws.proofs.ScheduleHours.{hours_of_mission}
use Rattle.mission_laws.specs.Counted.{counted_list, test_hours_in}
use Rattle.mission_laws.specs.Calm.{calm_list, staying}
use Rattle.mission_laws.proofs.Counted.{pay-counted, counted-both}

-- what these three modes count at the end is nothing
module _ (us : List Subsystem) (n : ℕ) (items : List Item) where
  pub down-counted : pay_list us n Down items ≡ counted_list us n (payoff_list us Down) (λ ts i. whole 0) (λ i. whole 0) items
  unfolding last_of passing_list
  down-counted = pay-counted us n Down items

  pub up-counted : pay_list us n Up items ≡ counted_list us n (payoff_list us Up) (λ ts i. whole 0) (λ i. whole 0) items
  unfolding last_of passing_list
  up-counted = pay-counted us n Up items

  pub entry-counted : pay_list us n Entry items ≡ counted_list us n (payoff_list us Entry) (passing us) (λ i. whole 0) items
  unfolding last_of passing_list
  entry-counted = pay-counted us n Entry items

down-or-up : (us : List Subsystem) (i : ℕ) → payoff_list us Down i +ℚ payoff_list us Up i ≡ whole 1
unfolding payoff_of
down-or-up us i = elim (is_up_of us (state_numbered us i)) as (λ b. one_if (not b) +ℚ one_if b ≡ whole 1) [ true ↦ zero-add _ | false ↦ add-zero _ ]

one-at-most : (b : Bool) → one_if b ≤ℚ whole 1
one-at-most true = le_refl _
one-at-most false = zero-le _

-- a passage is a chance
pub passing-le-one : (us : List Subsystem) (ts : List ChannelTest) → AreChances ts → (i : ℕ) → passing us ts i ≤ℚ whole 1
unfolding passing
passing-le-one us ts likely i =
    le_trans _ _ _ (after-grows ts _ (λ s. whole 1) (λ s. one-at-most (is_up_of us (state_numbered us i) && not (is_up_of us s))) (state_numbered us i))
    (le_of_same _ _ (after-constant ts likely (whole 1) (state_numbered us i)))

-- tests stand between phases
beats-without : (k : ℕ) (h : Fraction) (counts : Bool) (rest : List Item) → test_hours_in (replicate k (Beat h counts) ++ rest) ≡ test_hours_in rest
unfolding test_hours_in
beats-without zero h counts rest = refl
beats-without (suc k) h counts rest = beats-without k h counts rest

beats-alone : (k : ℕ) (h : Fraction) (counts : Bool) → test_hours_in (replicate k (Beat h counts)) ≡ 0
unfolding test_hours_in
beats-alone zero h counts = refl
beats-alone (suc k) h counts = beats-alone k h counts

tests-between : (l : LoopValue) (counts : ℕ → Bool) (p : ℕ) (phase : Phase) (more : List Phase)
    → test_hours_in (items_from l counts p (phase ∷ more)) ≡ length more
unfolding test_hours_in
tests-between l counts p phase [] = beats-alone (beats_of l.subsystems phase.hours) (ratio phase.hours (beats_of l.subsystems phase.hours)) (counts p)
tests-between l counts p phase (next ∷ more) =
    beats-without (beats_of l.subsystems phase.hours) (ratio phase.hours (beats_of l.subsystems phase.hours)) (counts p)
    (Tests (tests_at l next.start) ∷ items_from l counts (suc p) (next ∷ more)) ∙ ap (λ k. k + 1) (tests-between l counts (suc p) next more) ∙ omega arith

module _ (l : LoopValue) where
  hours-counted : (ps : List Phase) → length ps ≡ suc (length (test_hours_of l)) → test_hours_in (items_from l (λ p. true) 0 ps) ≡ length (test_hours_of l)
  hours-counted [] e = omega (arith, e)
  hours-counted (phase ∷ more) e = tests-between l (λ p. true) 0 phase more ∙ omega (arith, e)

  pub test_hours-all : test_hours_in (schedule_of l) ≡ length (test_hours_of l)
  unfolding schedule_of
  test_hours-all = hours-counted (phases_of l) (length-phases_of l)

  module _ (valid : IsValid l) (n i : ℕ) where
    us : List Subsystem
    us = l.subsystems

    items : List Item
    items = schedule_of l

    short : AreShort l.subsystems (schedule_of l)
    short = short_mission l valid [] (schedule_of l) refl

    pub down-and-up : pay_list l.subsystems (suc n) Down (schedule_of l) i +ℚ pay_list l.subsystems (suc n) Up (schedule_of l) i ≡ whole l.mission
    down-and-up =
        ap (λ (v : Values ℕ). v i +ℚ pay_list l.subsystems (suc n) Up (schedule_of l) i) (down-counted l.subsystems (suc n) (schedule_of l))
        ∙ ap (λ (v : Values ℕ). counted_list l.subsystems (suc n) (payoff_list l.subsystems Down) (λ ts j. whole 0) (λ j. whole 0) (schedule_of l) i +ℚ v i) (up-counted l.subsystems (suc n) (schedule_of l))
        ∙ counted-both l.subsystems n (payoff_list l.subsystems Down) (payoff_list l.subsystems Up) (λ ts j. whole 0) (λ ts j. whole 0) (whole 1) (whole 0)
        (down-or-up l.subsystems) (λ ts likely j. zero-add (whole 0)) (schedule_of l) short i
        ∙ cc (mul-one (hours_of (schedule_of l)), mul-zero (whole (test_hours_in (schedule_of l))), add-zero (hours_of (schedule_of l)), hours_of_mission l)

    pub entry-and-calm : (greatest : Fraction) → ((j : ℕ) → payoff_list l.subsystems Entry j ≤ℚ greatest)
        → pay_list l.subsystems (suc n) Entry (schedule_of l) i
        +ℚ counted_list l.subsystems (suc n) (calm_list l.subsystems greatest) (staying l.subsystems) (λ j. whole 0) (schedule_of l) i
        ≡ whole l.mission *ℚ greatest +ℚ whole (length (test_hours_of l))
    entry-and-calm greatest small =
        ap (λ (v : Values ℕ). v i +ℚ counted_list l.subsystems (suc n) (calm_list l.subsystems greatest) (staying l.subsystems) (λ j. whole 0) (schedule_of l) i) (entry-counted l.subsystems (suc n) (schedule_of l))
        ∙ counted-both l.subsystems n (payoff_list l.subsystems Entry) (calm_list l.subsystems greatest) (passing l.subsystems) (staying l.subsystems) greatest (whole 1)
        (λ j. add_comm _ _ ∙ sub-add greatest _ (small j)) (λ ts likely j. add_comm _ _ ∙ sub-add (whole 1) _ (passing-le-one l.subsystems ts likely j)) (schedule_of l) short i
        ∙ cc (hours_of_mission l, test_hours-all, mul-one (whole (test_hours_in (schedule_of l))))
