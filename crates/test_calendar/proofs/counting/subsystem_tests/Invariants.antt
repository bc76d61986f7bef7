use Rattle.std.proofs.Common.{◌≡◌, ◌+◌, ◌-◌, ◌*◌, ◌≤◌}
use Rattle.std.specs.Prelude.{Some}
use Rattle.test_calendar.specs.Counts.{channels_count}
use Rattle.test_calendar.proofs.counting.subsystem_tests.Given as goal

abbrev pub invariant-loop-channel : goal.invariant-loop-channel
invariant-loop-channel l = record {
  count : l.count + channels_count l.mission (Some l.plan) l.channel (l.u.vote.n - l.channel) ≡ channels_count l.mission (Some l.plan) 0 l.u.vote.n;
  bounded : l.count ≤ l.channel * 350_400;
}
