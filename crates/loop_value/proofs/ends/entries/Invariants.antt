use Rattle.std.proofs.Common.{◌≡◌, ◌+◌, ◌*◌, slice_index}
use Rattle.sil_fraction.specs.Sum.{sum_below}
use Rattle.loop_value.proofs.ends.entries.Given as goal

abbrev pub invariant-loop-i : goal.invariant-loop-i
invariant-loop-i g l = record {
  products : l.sum.sum ≡ sum_below l.i (λ k. slice_index l.means k * slice_index l.rates k);
  number : l.sum.number ≡ l.i;
  counted : l.steps ≡ l.fn.steps + l.i;
}
