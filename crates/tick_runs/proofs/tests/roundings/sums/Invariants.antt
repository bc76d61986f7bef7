use Rattle.std.proofs.Common.{◌≡◌}
use Rattle.tick_runs.proofs.tests.roundings.sums.Given as goal

abbrev pub invariant-loop : goal.invariant-loop
invariant-loop g l = l.greatest.number ≡ l.counter
