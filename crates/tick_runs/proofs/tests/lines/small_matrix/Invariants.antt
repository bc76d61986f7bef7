use Rattle.std.proofs.Common.{◌≡◌}
use Rattle.tick_runs.proofs.tests.lines.small_matrix.Given as goal

abbrev pub invariant-loop-i : goal.invariant-loop-i
invariant-loop-i l = l.m.size ≡ l.size

abbrev pub invariant-loop-j : goal.invariant-loop-j
invariant-loop-j l = l.m.size ≡ l.size
