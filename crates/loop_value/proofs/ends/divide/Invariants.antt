use Rattle.std.proofs.Common.{◌≡◌, ℕ, ◌/◌, ◌<◌, ◌≤◌, length, slice_index}
use Rattle.loop_value.proofs.ends.divide.Given as goal

abbrev pub invariant-loop-i : goal.invariant-loop-i
invariant-loop-i l = record {
  long : length l.dwell ≡ length l.fn.dwell;
  done : (k : ℕ) → k < l.i → slice_index l.dwell k ≡ slice_index l.fn.dwell k / l.hours;
  left : (k : ℕ) → l.i ≤ k → k < length l.fn.dwell → slice_index l.dwell k ≡ slice_index l.fn.dwell k;
}
