use Rattle.std.proofs.Common.{◌≡◌, ◌+◌, ◌^◌, length}
use Rattle.std.specs.Prelude.{sum}
use Rattle.tick_runs.proofs.tests.chains.tick_once.Given as goal

abbrev pub invariant-loop-i : goal.invariant-loop-i
invariant-loop-i g l = record {
  size : length l.vector.items ≡ length l.initial.vector.items;
  mass : sum l.vector.items + l.left ≡ 2 ^ 48;
}
