-- The items of a schedule pay the same from an exchanged state.
use Rattle.std.proofs.Common.{◌≡◌, ℕ, zero, suc, Bool, true, not, ◌&&◌, List, [], ◌∷◌, ◌++◌, replicate, refl, sym, ap, ◌∙◌, arith}
use mathlib.Core.Path.{fun_ext}
use Rattle.sil_fraction.specs.Fraction.{Fraction, ◌+ℚ◌, ratio}
use Rattle.sil_model.specs.State.{FullState, is_up_of}
use Rattle.sil_model.specs.Events.{events_of, flow_of, step_of}
use Rattle.sil_model.specs.Series.{beat_of, mean_of}
use Rattle.sil_model.specs.Calendar.{Phase, phases_of, tests_at, beats_of}
use Rattle.sil_model.specs.Pay.{Item, Mode, one_if, payoff_of, last_of, passage_of, testing_of, pay_of, beats_items, items_from, items_until, schedule_of, schedule_of_phase, schedule_until}
use Rattle.sil_model.specs.Pay.Item.{Beat, Tests}
use Rattle.sil_model.specs.Pay.Mode.{Down, Up, Entry, AtEnd, UpAtEnd}
use Rattle.sil_model.specs.LoopValue.{LoopValue}
use Rattle.sil_model.specs.declared.parts.Subsystem.{Subsystem}
use Rattle.count_laws.specs.AfterTests.{after_tests}
use Rattle.count_laws.proofs.Exchange.{exchange}
use Rattle.count_laws.proofs.Pairs.{IsPair, up-exchange}
use Rattle.count_laws.proofs.Carried.{beat-along, mean-along}
use Rattle.count_laws.proofs.Flows.{flow-exchange, step-exchange}
use Rattle.count_laws.proofs.Tests.{testing-after, hour_along}

-- beats, and the tests of hours of a loop
abbrev pub AreItemsOf : LoopValue → List Item → Type 0
AreItemsOf l [] = Unit {0}
AreItemsOf l (Beat h counts ∷ rest) = AreItemsOf l rest
AreItemsOf l (Tests ts ∷ rest) = ((t : ℕ) × (ts ≡ tests_at l t)) × AreItemsOf l rest

module _ (us : List Subsystem) (i : ℕ) (p : IsPair us i) where
  pub last-exchange : (m : Mode) (s : FullState) → last_of us m (exchange i s) ≡ last_of us m s
  unfolding last_of
  last-exchange Down s = refl
  last-exchange Up s = refl
  last-exchange Entry s = refl
  last-exchange AtEnd s = ap (λ b. one_if (not b)) (up-exchange us i p s)
  last-exchange UpAtEnd s = ap one_if (up-exchange us i p s)

  pub payoff-exchange : (m : Mode) (s : FullState) → payoff_of us m (exchange i s) ≡ payoff_of us m s
  unfolding payoff_of
  payoff-exchange Down s = ap (λ b. one_if (not b)) (up-exchange us i p s)
  payoff-exchange Up s = ap one_if (up-exchange us i p s)
  payoff-exchange Entry s =
      let down : FullState → Fraction = λ t. one_if (not (is_up_of us t)) in
      let entries : flow_of (events_of us) down (exchange i s) ≡ flow_of (events_of us) down s =
      flow-exchange us i p down s
      ∙ ap (λ (f : FullState → Fraction). flow_of (events_of us) f s) (fun_ext (λ t. ap (λ b. one_if (not b)) (up-exchange us i p t))) in
      rw (up-exchange us i p s, entries) refl
  payoff-exchange AtEnd s = refl
  payoff-exchange UpAtEnd s = refl

  pub passage-before : (m : Mode) (b s : FullState) → passage_of us m (exchange i b) s ≡ passage_of us m b s
  unfolding passage_of
  passage-before Entry b s = ap (λ x. one_if (x && not (is_up_of us s))) (up-exchange us i p b)
  passage-before Down b s = refl
  passage-before Up b s = refl
  passage-before AtEnd b s = refl
  passage-before UpAtEnd b s = refl

  pub passage-after : (m : Mode) (b s : FullState) → passage_of us m b (exchange i s) ≡ passage_of us m b s
  unfolding passage_of
  passage-after Entry b s = ap (λ x. one_if (is_up_of us b && not x)) (up-exchange us i p s)
  passage-after Down b s = refl
  passage-after Up b s = refl
  passage-after AtEnd b s = refl
  passage-after UpAtEnd b s = refl

module _ (l : LoopValue) (i : ℕ) (p : IsPair l.subsystems i) (n : ℕ) (m : Mode) where
  abbrev us : List Subsystem
  us = l.subsystems

  -- the state before the tests and the state after them are exchanged together
  tests-exchange : (f : FullState → Fraction) → ((s : FullState) → f (exchange i s) ≡ f s) → (t : ℕ) (s : FullState)
      → testing_of us m f (tests_at l t) (exchange i s) (exchange i s) ≡ testing_of us m f (tests_at l t) s s
  unfolding tests_at
  tests-exchange f same t s =
      testing-after us m f (exchange i s) (tests_at l t) (exchange i s)
      ∙ hour_along l.mission t us 0 i i (omega arith) p (λ x. f x +ℚ passage_of us m (exchange i s) x) s
      ∙ ap (λ (g : FullState → Fraction). after_tests (tests_at l t) g s)
      (fun_ext (λ x. cc (same x, passage-after us i p m (exchange i s) x, passage-before us i p m s x)))
      ∙ sym (testing-after us m f s (tests_at l t) s)

  pub pay-exchange : (items : List Item) → AreItemsOf l items → (s : FullState) → pay_of us n m items (exchange i s) ≡ pay_of us n m items s
  unfolding pay_of
  pay-exchange [] h s = last-exchange us i p m s
  pay-exchange (Beat h counts ∷ rest) a s =
      let T : (FullState → Fraction) → FullState → Fraction = step_of (events_of us) h in
      let ends : beat_of T n (pay_of us n m rest) (exchange i s) ≡ beat_of T n (pay_of us n m rest) s =
      beat-along T (exchange i) (step-exchange us i p h) n (pay_of us n m rest) s
      ∙ ap (λ (f : FullState → Fraction). beat_of T n f s) (fun_ext (pay-exchange rest a)) in
      let stays : mean_of T n (payoff_of us m) (exchange i s) ≡ mean_of T n (payoff_of us m) s =
      mean-along T (exchange i) (step-exchange us i p h) n (payoff_of us m) s
      ∙ ap (λ (f : FullState → Fraction). mean_of T n f s) (fun_ext (payoff-exchange us i p m)) in
      rw (ends, stays) refl
  pay-exchange (Tests ts ∷ rest) a s = rw (a.0.1) (tests-exchange (pay_of us n m rest) (pay-exchange rest a.1) a.0.0 s)

-- every rest of a schedule has only such items
both_items : (l : LoopValue) (done left : List Item) → AreItemsOf l done → AreItemsOf l left → AreItemsOf l (done ++ left)
both_items l [] left h k = k
both_items l (Beat d counts ∷ done) left h k = both_items l done left h k
both_items l (Tests ts ∷ done) left h k = (h.0, both_items l done left h.1 k)

pub items_left : (l : LoopValue) (done left : List Item) → AreItemsOf l (done ++ left) → AreItemsOf l left
items_left l [] left h = h
items_left l (Beat d counts ∷ done) left h = items_left l done left h
items_left l (Tests ts ∷ done) left h = items_left l done left h.1

repeated : (l : LoopValue) (n : ℕ) (h : Fraction) (counts : Bool) → AreItemsOf l (replicate n (Beat h counts))
repeated l zero h counts = tt
repeated l (suc n) h counts = repeated l n h counts

beats : (l : LoopValue) (counts : Bool) (t : ℕ) → AreItemsOf l (beats_items l.subsystems counts t)
beats l counts t = repeated l (beats_of l.subsystems t) (ratio t (beats_of l.subsystems t)) counts

from_phases : (l : LoopValue) (counts : ℕ → Bool) (p : ℕ) (phases : List Phase) → AreItemsOf l (items_from l counts p phases)
from_phases l counts p [] = tt
from_phases l counts p (phase ∷ []) = beats l (counts p) phase.hours
from_phases l counts p (phase ∷ (next ∷ more)) =
    both_items l (beats_items l.subsystems (counts p) phase.hours) _ (beats l (counts p) phase.hours)
    ((next.start, refl), from_phases l counts (suc p) (next ∷ more))

until_phase : (l : LoopValue) (p : ℕ) (phases : List Phase) → AreItemsOf l (items_until l p phases)
until_phase l p [] = tt
until_phase l zero (phase ∷ more) = beats l true phase.hours
until_phase l (suc p) (phase ∷ []) = beats l true phase.hours
until_phase l (suc p) (phase ∷ (next ∷ more)) =
    both_items l (beats_items l.subsystems true phase.hours) _ (beats l true phase.hours) ((next.start, refl), until_phase l p (next ∷ more))

pub items_of_mission : (l : LoopValue) → AreItemsOf l (schedule_of l)
unfolding schedule_of
items_of_mission l = from_phases l _ 0 (phases_of l)

pub items_of_phase : (l : LoopValue) (p : ℕ) → AreItemsOf l (schedule_of_phase l p)
unfolding schedule_of_phase
items_of_phase l p = from_phases l _ 0 (phases_of l)

pub items_until_phase : (l : LoopValue) (p : ℕ) → AreItemsOf l (schedule_until l p)
unfolding schedule_until
items_until_phase l p = until_phase l p (phases_of l)
