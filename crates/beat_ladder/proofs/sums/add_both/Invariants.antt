use Rattle.std.proofs.Common.{◌≡◌, ℕ, ◌+◌, ◌*◌, ◌<◌, ◌≤◌, length, slice_index}
use Rattle.beat_ladder.proofs.sums.add_both.Given as goal

abbrev pub invariant-loop-k : goal.invariant-loop-k
invariant-loop-k g l = record {
  first_done : (k : ℕ) → k < l.k → slice_index l.first k ≡ slice_index l.fn.first k + l.first_weight * slice_index l.vector k;
  first_left : (k : ℕ) → l.k ≤ k → k < length l.vector → slice_index l.first k ≡ slice_index l.fn.first k;
  second_done : (k : ℕ) → k < l.k → slice_index l.second k ≡ slice_index l.fn.second k + l.second_weight * slice_index l.vector k;
  second_left : (k : ℕ) → l.k ≤ k → k < length l.vector → slice_index l.second k ≡ slice_index l.fn.second k;
  counted : l.steps ≡ l.fn.steps + 2 * l.k;
}
