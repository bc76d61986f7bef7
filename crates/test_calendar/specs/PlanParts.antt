-- A plan as contracts see it.
use Rattle.std.specs.Prelude.{ℕ, ◌<◌, ◌≤◌, List, length, map, All}
use Rattle.std.specs.List.{slice_range}
use Rattle.sil_model.specs.Calendar.{Phase, phases_from}
use Rattle.sil_model.specs.LoopValue.{IsWithin}
use Rattle.test_calendar.specs.declared.groups.GroupTest.{GroupTest}
use Rattle.test_calendar.specs.declared.hours.Stop.{Stop}

-- the phases of a mission, and the group tests after each of them but the last
pub record PlanValue : Type 0 where
  pub phases : List Phase
  pub tests : List (List GroupTest)

-- the group tests of a test hour
abbrev pub tests_of_stop : List GroupTest → Stop → List GroupTest
tests_of_stop tests s = slice_range tests s.from s.to

-- what is cut at these test hours, with these group tests
abbrev pub plan_value : ℕ → List Stop → List GroupTest → PlanValue
plan_value mission stops tests = record {
  phases = phases_from mission 0 (map (λ (s : Stop). s.hour) stops);
  tests = map (tests_of_stop tests) stops;
}

-- a test hour's group tests stand within all group tests
pub record IsInside (tests : List GroupTest) (s : Stop) : Type 0 where
  pub ordered : s.from ≤ s.to
  pub within : s.to ≤ length tests

-- each phase lasts at least an hour, and no longer than a mission may, and there are no more phases than a mission has hours
pub record IsPlan (mission : ℕ) (cuts : List Stop) (tests : List GroupTest) : Type 0 where
  pub few : length cuts < 350_400
  pub phases : All (λ (p : Phase). IsWithin 1 350_400 p.hours) (phases_from mission 0 (map (λ (s : Stop). s.hour) cuts))
  pub stops : All (IsInside tests) cuts
