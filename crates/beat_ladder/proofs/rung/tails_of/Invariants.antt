use Rattle.std.proofs.Common.{◌≡◌, ℕ, ◌+◌, ◌<◌, ◌≤◌, length, drop, sum, slice_index, vec_len}
use Rattle.beat_ladder.proofs.rung.tails_of.Given as goal

abbrev pub invariant-loop-k : goal.invariant-loop-k
invariant-loop-k l = record {
  len : vec_len l.tails ≡ length l.numbers;
  above : l.above ≡ sum (drop l.k l.numbers);
  made : (i : ℕ) → l.k ≤ i → i < length l.numbers → slice_index l.tails.items i ≡ sum (drop (i + 1) l.numbers);
}
