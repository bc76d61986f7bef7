use Rattle.std.proofs.Common.{◌+◌, ◌*◌}
use Rattle.digit_product.specs.Lines.{AreLines}
use Rattle.digit_product.proofs.lines.Lines.add_block.Given as goal

abbrev pub invariant-loop-low : goal.invariant-loop-low
invariant-loop-low l = AreLines l.stride l.size (l.block * l.stride + l.low) l.v l.self
