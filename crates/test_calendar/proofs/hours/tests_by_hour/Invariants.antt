use Rattle.std.proofs.Common.{◌≡◌, ◌-◌, ◌<◌, ◌≤◌, ◌++◌, true}
use Rattle.std.specs.Prelude.{All, filter, map}
use Rattle.sil_model.specs.Calendar.{upto}
use Rattle.test_calendar.specs.declared.hours.Stop.{Stop}
use Rattle.test_calendar.specs.PlanParts.{tests_of_stop, IsInside}
use Rattle.test_calendar.specs.Plans.{has_tests, tests_by}
use Rattle.test_calendar.proofs.hours.tests_by_hour.Given as goal

abbrev pub invariant-loop-hour : goal.invariant-loop-hour
invariant-loop-hour l = record {
  within : l.hour ≤ l.mission;
  some : l.hour < l.mission → has_tests l.plans l.hour ≡ true;
  ahead : filter (has_tests l.plans) (upto 0 l.mission) ≡ map (λ (s : Stop). s.hour) l.stops.items ++ filter (has_tests l.plans) (upto l.hour (l.mission - l.hour));
  tests : map (tests_of_stop l.tests.items) l.stops.items ≡ map (tests_by l.plans) (map (λ (s : Stop). s.hour) l.stops.items);
  inside : All (IsInside l.tests.items) l.stops.items;
}

abbrev pub decreases-loop-hour : goal.decreases-loop-hour
decreases-loop-hour l = l.mission - l.hour
