use Rattle.std.proofs.Common.{◌≡◌, ◌*◌, ◌≤◌, ◌++◌, drop}
use Rattle.test_calendar.specs.Plans.{repeats_from}
use Rattle.test_calendar.proofs.groups.group_plans.Given as goal

abbrev pub invariant-loop-i : goal.invariant-loop-i
invariant-loop-i l = record {
  plans : l.plans.items ++ repeats_from l.i l.group (drop l.i l.l.subsystems) ≡ repeats_from 0 0 l.l.subsystems;
  few : l.group ≤ 8 * l.i;
}
