use Rattle.std.proofs.Common.{◌≡◌, ◌+◌, ◌*◌, slice_index}
use Rattle.sil_fraction.specs.Sum.{sum_below}
use Rattle.dense_power.proofs.dense.Dense.row_product_down.Given as goal

abbrev pub invariant-loop-k : goal.invariant-loop-k
invariant-loop-k g l = record {
  sum : l.product.sum ≡ sum_below l.k (λ i. slice_index l.row i * slice_index l.column i);
  number : l.product.number ≡ l.k;
  steps : l.steps ≡ l.initial.steps + l.k;
}
