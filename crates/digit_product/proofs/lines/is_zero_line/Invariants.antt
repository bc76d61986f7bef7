use Rattle.std.proofs.Common.{◌≡◌, ℕ, ◌+◌, ◌*◌, ◌<◌, slice_index}
use Rattle.digit_product.proofs.lines.is_zero_line.Given as goal

abbrev pub invariant-loop-digit : goal.invariant-loop-digit
invariant-loop-digit l = (digit : ℕ) → digit < l.digit → slice_index l.v (l.start + digit * l.stride) ≡ 0
