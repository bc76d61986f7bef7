use Rattle.std.proofs.Common.{◌≡◌, ◌*◌, ◌≤◌, take}
use Rattle.std.specs.Prelude.{sum_by}
use Rattle.test_calendar.proofs.ChannelCounts.{tests_in}
use Rattle.test_calendar.proofs.counting.channel_tests.Given as goal

abbrev pub invariant-loop-i : goal.invariant-loop-i
invariant-loop-i l = record {
  count : l.count ≡ sum_by (tests_in l.l.mission) (take l.i l.l.subsystems);
  bounded : l.count ≤ l.i * 2_803_200;
}
