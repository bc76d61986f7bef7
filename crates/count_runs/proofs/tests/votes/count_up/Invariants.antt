use Rattle.std.proofs.Common.{◌≤◌}
use Rattle.count_runs.proofs.tests.votes.count_up.Given as goal

abbrev pub invariant-loop-i : goal.invariant-loop-i
invariant-loop-i g l = l.up ≤ l.i
