use Rattle.std.proofs.Common.{◌≡◌, ◌^◌, ◌≤◌, sum, take}
use Rattle.tick_runs.proofs.tests.lines.is_light.Given as goal

abbrev pub invariant-loop-x : goal.invariant-loop-x
invariant-loop-x l = record {
  total : l.total ≡ sum (take l.x-index l.v);
  most : l.total ≤ 2 ^ 63;
}
