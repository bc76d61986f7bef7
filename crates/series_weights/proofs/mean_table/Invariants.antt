use Rattle.std.proofs.Common.{◌≡◌, ℕ, ◌<◌, ◌≤◌, length, slice_index}
use Rattle.sil_model.specs.WeightTable.{mean_weight_of}
use Rattle.series_weights.proofs.mean_table.Given as goal

abbrev pub invariant-loop-k : goal.invariant-loop-k
invariant-loop-k l = record {
  room : length l.table ≡ 41;
  above : l.above ≡ mean_weight_of l.order l.k;
  made : (i : ℕ) → l.k ≤ i → i < l.order → slice_index l.table i ≡ mean_weight_of l.order i;
}
