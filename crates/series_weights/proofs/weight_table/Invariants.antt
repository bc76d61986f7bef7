use Rattle.std.proofs.Common.{◌≡◌, ℕ, ◌<◌, length, slice_index}
use Rattle.sil_model.specs.WeightTable.{weight_of}
use Rattle.series_weights.proofs.weight_table.Given as goal

abbrev pub invariant-loop-k : goal.invariant-loop-k
invariant-loop-k l = record {
  room : length l.table ≡ 41;
  made : (i : ℕ) → i < l.k → slice_index l.table i ≡ weight_of i;
}
