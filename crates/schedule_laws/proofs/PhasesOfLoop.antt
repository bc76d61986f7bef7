-- The phases of a loop: how many, where each begins, how long they last.
use Rattle.std.proofs.Common.{◌≡◌, ℕ, zero, suc, ◌+◌, ◌-◌, ◌<◌, ◌≤◌, List, [], ◌∷◌, length, get_or, refl, ◌∙◌, arith}
use Rattle.std.specs.Prelude.{All, Bool, true, false, not, ◌&&◌, Option, Some, None, filter, sum_by}
use Rattle.std.proofs.lemmas.Bool.{lt-leb}
use Rattle.std.proofs.lemmas.List.Elements.{All-head, All-tail}
use Rattle.std.proofs.lemmas.List.Sums.{sum_by-cons}
use Rattle.sil_model.specs.declared.parts.Subsystem.{Subsystem}
use Rattle.sil_model.specs.declared.parts.TestPlan.{TestPlan}
use Rattle.sil_model.specs.LoopValue.{LoopValue, IsValid, IsWithin, IsSubsystemInRange}
use Rattle.sil_model.specs.Calendar.{Phase, phases_from, phases_of, test_hours_of, first_test, is_tested, test_of, tests_of, tests_from, tests_at, upto, is_empty}
use Rattle.schedule_laws.proofs.Rising.{IsRising, none, one, filter_rises, earlier}
use Rattle.schedule_laws.proofs.PhaseList.{length-phases, start-at, phases_within}

-- no channel is tested at the start
not_second : (a b c : Bool) → b ≡ false → (a && b && c) ≡ false
not_second true b c e = rw e refl
not_second false b c e = refl

module _ (mission : ℕ) where
  untested : (u : Subsystem) (o : Option TestPlan) → ((p : TestPlan) → o ≡ Some p → 1 ≤ p.first) → (i c : ℕ) → test_of mission 0 u o i c ≡ []
  untested u None late i c = refl
  untested u (Some p) late i c =
      let first : 1 ≤ p.first = late p refl in
      let e : is_tested mission 0 p i ≡ false = not_second _ _ _ (lt-leb (first_test p i) 0 (omega (arith, first))) in
      rw e refl

  none_of : (u : Subsystem) → IsSubsystemInRange u → (n i c : ℕ) → tests_of mission 0 u n i c ≡ []
  none_of u r zero i c = refl
  none_of u r (suc n) i c = rw (untested u u.test (λ p e. (r.test p e).first.above) i c, none_of u r n (suc i) (suc c)) refl

  none_at_start : (c : ℕ) (us : List Subsystem) → All IsSubsystemInRange us → tests_from mission 0 c us ≡ []
  none_at_start c [] v = refl
  none_at_start c (u ∷ us) v =
      rw (none_of u (All-head IsSubsystemInRange u us v) u.vote.n 0 c, none_at_start (c + u.vote.n) us (All-tail IsSubsystemInRange u us v)) refl

-- together the phases last as long as what is left of the mission
fill : (mission start : ℕ) (hours : List ℕ) → start ≤ mission → IsRising mission start hours → sum_by (λ (p : Phase). p.hours) (phases_from mission start hours) ≡ mission - start
fill mission start [] s (none h) = omega arith
fill mission start (hour ∷ hours) s (one a b more) =
    omega (arith, sum_by-cons (λ (p : Phase). p.hours) (record { start = start; hours = hour - start }) (phases_from mission hour hours), fill mission hour hours (omega arith) (earlier mission hour (suc hour) hours (omega arith) more))

module _ (l : LoopValue) where
  -- one phase more than there are test hours
  pub length-phases_of : length (phases_of l) ≡ suc (length (test_hours_of l))
  unfolding phases_of
  length-phases_of = length-phases l.mission 0 (test_hours_of l)

  -- the first phase begins at 0, and each later one at a test hour
  pub first_start : (d : Phase) → (get_or (phases_of l) 0 d).start ≡ 0
  unfolding phases_of
  first_start d = start-at l.mission 0 (test_hours_of l) 0 d (omega arith)

  pub next_start : (i : ℕ) (d : Phase) → i < length (test_hours_of l) → (get_or (phases_of l) (suc i) d).start ≡ get_or (test_hours_of l) i 0
  unfolding phases_of
  next_start i d h = start-at l.mission 0 (test_hours_of l) (suc i) d (omega arith)

  -- each phase lasts from 1 to 350,400 hours
  free_start : IsValid l → not (is_empty (tests_at l 0)) ≡ false
  unfolding tests_at
  free_start v = rw (none_at_start l.mission 0 l.subsystems v.subsystems) refl

  pub phases_of_last : IsValid l → All (λ (p : Phase). IsWithin 1 350_400 p.hours) (phases_of l)
  unfolding phases_of test_hours_of
  phases_of_last v = phases_within l.mission (λ t. not (is_empty (tests_at l t))) v.mission.above v.mission.below (free_start v)

  -- and all of them as long as the mission
  pub phases_of_fill : sum_by (λ (p : Phase). p.hours) (phases_of l) ≡ l.mission
  unfolding phases_of test_hours_of
  phases_of_fill =
      let some = λ (t : ℕ). not (is_empty (tests_at l t)) in
      let z : 0 + l.mission ≡ l.mission = omega arith in
      fill l.mission 0 (filter some (upto 0 l.mission)) (omega arith) (rw z at (filter_rises some 0 l.mission)) ∙ omega arith

all_at_least : (ps : List Phase) → All (λ (p : Phase). IsWithin 1 350_400 p.hours) ps → length ps ≤ sum_by (λ (p : Phase). p.hours) ps
all_at_least [] h = omega arith
all_at_least (p ∷ ps) h =
    let P = λ (p : Phase). IsWithin 1 350_400 p.hours in
    omega (arith, sum_by-cons (λ (p : Phase). p.hours) p ps, (All-head P p ps h).above, all_at_least ps (All-tail P p ps h))

-- there are no more phases than hours
pub phases_of_few : (l : LoopValue) → IsValid l → length (phases_of l) ≤ l.mission
phases_of_few l v = omega (arith, all_at_least (phases_of l) (phases_of_last l v), phases_of_fill l)
