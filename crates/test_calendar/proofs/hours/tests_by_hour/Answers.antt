use Rattle.std.proofs.Common.{arith, refl}
use Rattle.std.specs.Prelude.{map}
use Rattle.std.proofs.lemmas.List.{map-append}
use Rattle.std.proofs.lemmas.List.Elements.{All-nil}
use Rattle.test_calendar.specs.PlanParts.{IsInside}
use Rattle.test_calendar.specs.Plans.{has_tests, tests_by}
use Rattle.test_calendar.specs.declared.hours.Stop.{Stop}
use Rattle.test_calendar.proofs.Steps.{first_hour, one_hour}
use Rattle.test_calendar.proofs.Stops.{stop_more}
use Rattle.test_calendar.proofs.hours.tests_by_hour.Goals as goal

pub loop-hour-init : goal.loop-hour-init
loop-hour-init c = record {
  within = c.next_hour-hour.ensures.mission;
  some = c.next_hour-hour.ensures.some;
  ahead = rw c.in_ok-stops.ensures.items (first_hour (has_tests c.args.plans.now) c.args.mission c.next_hour-hour.result c.next_hour-hour.ensures.mission c.next_hour-hour.ensures.none);
  tests = rw c.in_ok-stops.ensures.items refl;
  inside = rw c.in_ok-stops.ensures.items (All-nil (IsInside c.in_ok-tests.tests.items));
}

pub loop-hour-preserved : goal.loop-hour-preserved
loop-hour-preserved c =
    let hour = c.loop-hour.hour in
    let s : Stop = record { hour = hour; from = c.len-from.result; to = c.len.result } in
    let more = stop_more (tests_by c.args.plans.now) c.loop-hour.tests.items (tests_by c.args.plans.now hour) c.add_tests.new.tests.items c.loop-hour.stops.items c.push.new.self.items s
    c.in_ok-push.ensures.items c.in_ok-add_tests.ensures refl (omega arith) (omega arith) c.loop-hour.invariant.inside c.loop-hour.invariant.tests
    in
    let next = c.next_hour-hour-in-loop-hour.ensures in
    record {
      within = next.mission;
      some = next.some;
      ahead = rw (c.in_ok-push.ensures.items, map-append)
          (one_hour (has_tests c.args.plans.now) c.args.mission (map (λ (s : Stop). s.hour) c.loop-hour.stops.items) hour c.next_hour-hour-in-loop-hour.result
          c.loop-hour-test.true (omega arith) next.mission (c.loop-hour.invariant.some c.loop-hour-test.true) next.none c.loop-hour.invariant.ahead);
      tests = more.0;
      inside = more.1;
    }
