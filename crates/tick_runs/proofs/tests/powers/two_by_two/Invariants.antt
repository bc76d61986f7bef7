use Rattle.std.proofs.Common.{◌≡◌}
use Rattle.tick_runs.proofs.tests.powers.two_by_two.Given as goal

abbrev pub invariant-loop-i : goal.invariant-loop-i
invariant-loop-i l = l.m.size ≡ 2
