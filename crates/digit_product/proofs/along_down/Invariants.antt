use Rattle.std.proofs.Common.{◌≡◌, ℕ, ◌+◌, ◌*◌, ◌<◌, ◌≤◌, length, slice_index}
use Rattle.digit_product.specs.Lines.{place_of, brought}
use Rattle.digit_product.proofs.along_down.Given as goal

abbrev pub invariant-loop-digit : goal.invariant-loop-digit
invariant-loop-digit g l = record {
  size : length l.out ≡ length l.v;
  filled : (low digit high : ℕ) → low < l.stride → digit < l.digit → high < l.blocks
      → slice_index l.out (place_of l.stride l.matrix.size low digit high) ≡ brought l.stride l.matrix l.v low high digit;
  left : (low digit high : ℕ) → low < l.stride → l.digit ≤ digit → digit < l.matrix.size → high < l.blocks
      → slice_index l.out (place_of l.stride l.matrix.size low digit high) ≡ 0;
  steps : l.steps ≤ l.initial.steps + l.digit * length l.v;
}
