use Rattle.std.proofs.Common.{◌≡◌, ℕ, ◌+◌, ◌<◌, ◌≤◌, length, slice_index}
use Rattle.phase_run.proofs.places.add_all.Given as goal

abbrev pub invariant-loop-k : goal.invariant-loop-k
invariant-loop-k l = record {
  done : (k : ℕ) → k < l.k → slice_index l.dwell k ≡ slice_index l.fn.dwell k + slice_index l.later k;
  left : (k : ℕ) → l.k ≤ k → k < length l.later → slice_index l.dwell k ≡ slice_index l.fn.dwell k;
}
