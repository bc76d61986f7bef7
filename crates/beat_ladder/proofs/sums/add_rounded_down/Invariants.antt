use Rattle.std.proofs.Common.{◌≡◌, ℕ, ◌+◌, ◌/◌, ◌^◌, ◌<◌, ◌≤◌, length, slice_index}
use Rattle.beat_ladder.proofs.sums.add_rounded_down.Given as goal

abbrev pub invariant-loop-k : goal.invariant-loop-k
invariant-loop-k l = record {
  done : (k : ℕ) → k < l.k → slice_index l.to k ≡ slice_index l.fn.to k + slice_index l.sums k / 2 ^ 48;
  left : (k : ℕ) → l.k ≤ k → k < length l.sums → slice_index l.to k ≡ slice_index l.fn.to k;
}
