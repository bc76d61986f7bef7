-- The test hours of a loop, and the tests of each, by the groups that are tested.
use Rattle.std.proofs.Common.{◌≡◌, ℕ, ◌<◌, sym, ap, ◌∙◌, arith, List, [], ◌∷◌, refl}
use Rattle.std.specs.Prelude.{All, not, filter, map}
use Rattle.sil_model.specs.LoopValue.{LoopValue, IsValid, IsWithin}
use Rattle.sil_model.specs.Calendar.{Phase, tests_at, test_hours_of, is_empty, upto, phases_from, phases_of}
use Rattle.schedule_laws.proofs.PhasesOfLoop.{phases_of_last}
use Rattle.test_calendar.specs.declared.groups.GroupTest.{GroupTest}
use Rattle.test_calendar.specs.Repeats.{Repeats}
use Rattle.test_calendar.specs.GroupTests.{group_tests_at, spread_over}
use Rattle.test_calendar.specs.Plans.{repeats_from, has_tests, tests_by}
use Rattle.test_calendar.proofs.Steps.{filter_same, map_same}
use Rattle.test_calendar.proofs.TestedGroups.{empty_from, from_as, any_empty}
use Rattle.test_calendar.proofs.Spread.{spread_at}

module _ (l : LoopValue) (v : IsValid l) where
  pub test_hours_as : test_hours_of l ≡ filter (has_tests (repeats_from 0 0 l.subsystems)) (upto 0 l.mission)
  unfolding test_hours_of tests_at has_tests
  test_hours_as = filter_same _ _ 0 l.mission (λ t h.
      let inside : t < l.mission = omega arith in
      ap not (empty_from l.mission t 0 0 0 l.subsystems v.subsystems ∙ ap is_empty (from_as l.mission t inside 0 0 l.subsystems))
      ∙ any_empty t (repeats_from 0 0 l.subsystems))

  pub tests_as : map (tests_by (repeats_from 0 0 l.subsystems)) (filter (has_tests (repeats_from 0 0 l.subsystems)) (upto 0 l.mission)) ≡ map (group_tests_at l) (test_hours_of l)
  unfolding group_tests_at tests_by
  tests_as = map_same _ _ (has_tests (repeats_from 0 0 l.subsystems)) 0 l.mission (λ t h. sym (from_as l.mission t (omega arith) 0 0 l.subsystems)) ∙ ap (map (group_tests_at l)) (sym test_hours_as)

  spread_map : (ts : List ℕ) → map (spread_over l.subsystems) (map (group_tests_at l) ts) ≡ map (tests_at l) ts
  spread_map [] = refl
  spread_map (t ∷ ts) = cc (spread_at l t, spread_map ts)

  -- the group tests of each test hour stand for its tests of channels
  pub spread_hours : map (spread_over l.subsystems) (map (group_tests_at l) (test_hours_of l)) ≡ map (tests_at l) (test_hours_of l)
  spread_hours = spread_map (test_hours_of l)

  -- what was found for these groups and this mission
  module _ (rs : List Repeats) (mission : ℕ) (groups : rs ≡ repeats_from 0 0 l.subsystems) (same : mission ≡ l.mission) (hours : List ℕ) (found : hours ≡ filter (has_tests rs) (upto 0 mission)) where
    hours_found : hours ≡ test_hours_of l
    hours_found = found ∙ rw (groups, same) (sym test_hours_as)

    pub phases_found : phases_from mission 0 hours ≡ phases_of l
    unfolding phases_of
    phases_found = rw (same, hours_found) refl

    pub lasting : All (λ (p : Phase). IsWithin 1 350_400 p.hours) (phases_from mission 0 hours)
    lasting = rw phases_found (phases_of_last l v)

    module _ (tests : List (List GroupTest)) (asked : tests ≡ map (tests_by rs) (filter (has_tests rs) (upto 0 mission))) where
      pub tests_found : tests ≡ map (group_tests_at l) (test_hours_of l)
      tests_found = asked ∙ rw (groups, same) tests_as

      pub channels_found : map (spread_over l.subsystems) tests ≡ map (tests_at l) (test_hours_of l)
      channels_found = ap (map (spread_over l.subsystems)) tests_found ∙ spread_hours
