use Rattle.std.proofs.Common.{◌≡◌, ◌≢◌, ℕ, ◌+◌, ◌*◌, ◌/◌, ◌^◌, ◌<◌, length, slice_index}
use Rattle.digit_product.specs.Columns.{weighed_from}
use Rattle.digit_product.proofs.fill_digit.Given as goal

abbrev pub invariant-loop-start : goal.invariant-loop-start
invariant-loop-start g l = record {
  filled : (i : ℕ) → i < l.start-index
      → slice_index l.out (slice_index l.starts i + l.shift) ≡ weighed_from l.v (slice_index l.starts i) l.column / 2 ^ 48;
  others : (j : ℕ) → ((i : ℕ) → i < l.start-index → slice_index l.starts i + l.shift ≢ j) → slice_index l.out j ≡ slice_index l.initial.out j;
  steps : l.steps ≡ l.initial.steps + l.start-index * length l.column;
}
