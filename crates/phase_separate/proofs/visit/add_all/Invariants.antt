use Rattle.std.proofs.Common.{◌≡◌, ℕ, ◌+◌, ◌<◌, ◌≤◌, length, slice_index}
use Rattle.phase_separate.proofs.visit.add_all.Given as goal

abbrev pub invariant-loop-k : goal.invariant-loop-k
invariant-loop-k l = record {
  done : (k : ℕ) → k < l.k → slice_index l.sums k ≡ slice_index l.fn.sums k + slice_index l.v k;
  left : (k : ℕ) → l.k ≤ k → k < length l.v → slice_index l.sums k ≡ slice_index l.fn.sums k;
}
