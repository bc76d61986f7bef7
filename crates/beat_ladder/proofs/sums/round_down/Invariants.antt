use Rattle.std.proofs.Common.{◌≡◌, ℕ, ◌/◌, ◌^◌, ◌<◌, slice_index}
use Rattle.beat_ladder.proofs.sums.round_down.Given as goal

abbrev pub invariant-loop-k : goal.invariant-loop-k
invariant-loop-k l = (k : ℕ) → k < l.k → slice_index l.to k ≡ slice_index l.sums k / 2 ^ 48
