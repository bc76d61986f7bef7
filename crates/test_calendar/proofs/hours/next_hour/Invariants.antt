use Rattle.std.proofs.Common.{◌≡◌, ℕ, ◌<◌, ◌≤◌, take, true, false}
use Rattle.std.specs.List.{list_any}
use Rattle.test_calendar.specs.Plans.{repeats_at}
use Rattle.test_calendar.proofs.hours.next_hour.Given as goal

abbrev pub invariant-loop-plan : goal.invariant-loop-plan
invariant-loop-plan l = record {
  from : l.from ≤ l.least;
  mission : l.least ≤ l.mission;
  none : (k : ℕ) → l.from ≤ k → k < l.least → list_any (repeats_at k) (take l.plan-index l.plans) ≡ false;
  some : l.least < l.mission → list_any (repeats_at l.least) (take l.plan-index l.plans) ≡ true;
}
