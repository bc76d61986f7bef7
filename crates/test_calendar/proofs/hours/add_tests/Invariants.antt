use Rattle.std.proofs.Common.{◌≡◌, ◌++◌, take}
use Rattle.std.specs.List.{filter_map}
use Rattle.test_calendar.specs.Plans.{test_by}
use Rattle.test_calendar.proofs.hours.add_tests.Given as goal

abbrev pub invariant-loop-plan : goal.invariant-loop-plan
invariant-loop-plan l = l.tests.items ≡ l.initial.tests.items ++ filter_map (test_by l.hour) (take l.plan-index l.plans)
