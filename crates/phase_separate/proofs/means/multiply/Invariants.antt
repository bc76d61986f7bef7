use Rattle.std.proofs.Common.{◌≡◌, ℕ, ◌*◌, ◌<◌, ◌≤◌, length, slice_index}
use Rattle.phase_separate.proofs.means.multiply.Given as goal

abbrev pub invariant-loop-k : goal.invariant-loop-k
invariant-loop-k l = record {
  long : length l.dwell ≡ length l.fn.dwell;
  made : (k : ℕ) → k < l.k → slice_index l.dwell k ≡ l.count * slice_index l.fn.dwell k;
  left : (k : ℕ) → l.k ≤ k → slice_index l.dwell k ≡ slice_index l.fn.dwell k;
}
