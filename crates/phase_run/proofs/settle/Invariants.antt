use Rattle.std.proofs.Common.{◌≡◌, ℕ, ◌+◌, ◌*◌, ◌/◌, ◌<◌, ◌≤◌, length, slice_index}
use Rattle.phase_run.proofs.settle.Given as goal

abbrev pub invariant-loop-k : goal.invariant-loop-k
invariant-loop-k l = record {
  long : length l.dwell ≡ length l.fn.dwell;
  mean : (k : ℕ) → k < l.k → slice_index l.dwell k ≡ slice_index l.fn.dwell k / l.fn.beats;
  hours : (k : ℕ) → k < l.k → slice_index l.dwell_hours k ≡ slice_index l.fn.dwell_hours k + l.hours * slice_index l.fn.dwell k / l.fn.beats;
  dwell_left : (k : ℕ) → l.k ≤ k → k < length l.fn.dwell → slice_index l.dwell k ≡ slice_index l.fn.dwell k;
  hours_left : (k : ℕ) → l.k ≤ k → k < length l.fn.dwell → slice_index l.dwell_hours k ≡ slice_index l.fn.dwell_hours k;
}
