use Rattle.std.proofs.Common.{◌≡◌, ℕ, ◌+◌, ◌-◌, ◌*◌, ◌/◌, ◌^◌, ◌<◌, ◌≤◌, length, slice_index}
use Rattle.phase_separate.proofs.lower.lower_by.Given as goal

abbrev pub invariant-loop-k : goal.invariant-loop-k
invariant-loop-k l = record {
  long : length l.a ≡ length l.fn.a;
  made : (k : ℕ) → k < l.k
      → slice_index l.a k ≡ (slice_index l.fn.a k * 2 ^ 46 - l.fn.beats * (slice_index l.fn.a k + slice_index l.fn.b k + l.fn.lacked)) / 2 ^ 46;
  left : (k : ℕ) → l.k ≤ k → slice_index l.a k ≡ slice_index l.fn.a k;
}
