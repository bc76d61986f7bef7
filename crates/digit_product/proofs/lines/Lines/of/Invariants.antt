use Rattle.std.proofs.Common.{◌*◌}
use Rattle.digit_product.specs.Lines.{AreLines}
use Rattle.digit_product.proofs.lines.Lines.of.Given as goal

abbrev pub invariant-loop-block : goal.invariant-loop-block
invariant-loop-block l = AreLines l.stride l.size (l.block * l.stride) l.v l.lines
