use Rattle.std.proofs.Common.{◌≡◌, ℕ, ◌/◌, ◌<◌, length, slice_index}
use Rattle.phase_separate.proofs.means.divide.Given as goal

abbrev pub invariant-loop-k : goal.invariant-loop-k
invariant-loop-k l = record {
  long : length l.mean ≡ length l.sums;
  made : (k : ℕ) → k < l.k → slice_index l.mean k ≡ slice_index l.sums k / l.count;
}
