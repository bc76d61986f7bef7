use Rattle.std.proofs.Common.{◌≡◌, ◌+◌, ◌-◌, ◌++◌}
use Rattle.test_calendar.proofs.GroupPlans.{repeats_along}
use Rattle.test_calendar.proofs.groups.add_plans.Given as goal

abbrev pub invariant-loop-channel : goal.invariant-loop-channel
invariant-loop-channel l = l.plans.items ++ repeats_along l.plan (l.group + l.channel) l.channel (l.count - l.channel) ≡ l.initial.plans.items ++ repeats_along l.plan l.group 0 l.count
