use Rattle.std.proofs.Common.{◌≡◌}
use Rattle.tick_runs.proofs.tests.blocks.pass.Given as goal

abbrev pub invariant-loop-exponent : goal.invariant-loop-exponent
invariant-loop-exponent g l = l.room ≡ 1
