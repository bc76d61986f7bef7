use Rattle.std.proofs.Common.{◌≡◌, ◌*◌, ◌^◌, ◌≤◌, sum, take}
use Rattle.phase_separate.proofs.lower.sum_of.Given as goal

abbrev pub invariant-loop-x : goal.invariant-loop-x
invariant-loop-x l = record {
  so_far : l.total ≡ sum (take l.x-index l.v);
  small : l.total ≤ l.x-index * 2 ^ 64;
}
