use Rattle.std.proofs.Common.{◌≡◌, ℕ, ◌<◌, slice_index, vec_len}
use Rattle.sil_model.specs.WeightTable.{weight_of}
use Rattle.beat_ladder.proofs.rung.weights.Given as goal

abbrev pub invariant-loop-k : goal.invariant-loop-k
invariant-loop-k l = record {
  len : vec_len l.numbers ≡ l.k;
  made : (i : ℕ) → i < l.k → slice_index l.numbers.items i ≡ weight_of i;
}
