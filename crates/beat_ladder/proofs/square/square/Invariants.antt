use Rattle.std.proofs.Common.{◌≡◌, ℕ, ◌/◌, ◌^◌, ◌<◌, slice_index, vec_len}
use Rattle.beat_ladder.specs.Powers.{square_at, at_place}
use Rattle.beat_ladder.proofs.square.square.Given as goal

abbrev pub invariant-loop-k : goal.invariant-loop-k
invariant-loop-k l = record {
  len : vec_len l.list ≡ l.k;
  numbers : (k : ℕ) → k < vec_len l.list → slice_index l.list.items k ≡ square_at (at_place l.numbers) k / 2 ^ 48;
}
