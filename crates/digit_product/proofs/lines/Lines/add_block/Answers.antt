use Rattle.std.proofs.Common.{rules, ◌≡◌, ◌+◌, ◌*◌, arith}
use Rattle.digit_product.specs.Lines.{place_of}
use Rattle.digit_product.proofs.Listed.{lines-zero, lines-next}
use Rattle.digit_product.proofs.lines.Lines.add_block.Goals.{then-not-is_zero_line, else-not-is_zero_line}
use Rattle.digit_product.proofs.lines.Lines.add_block.Goals as goal

pub loop-low-preserved : goal.loop-low-preserved
loop-low-preserved c = elim c.if-not-is_zero_line.branch [
  | then-not-is_zero_line w ↦
      rw (w.self-is, w.push.ensures)
      (lines-next c.args.stride c.args.size c.args.v.now c.loop-low.self c.loop-low.low c.args.block c.loop-low-test.true c.loop-low.invariant _
      (omega arith) c.requires.more (omega (arith, c.requires.block)))
  | else-not-is_zero_line w ↦
      rw w.self-is
      (lines-zero c.args.stride c.args.size c.args.v.now c.loop-low.self c.loop-low.low c.args.block c.loop-low-test.true c.loop-low.invariant
      (λ digit h.
      let place : c.args.block * c.args.size * c.args.stride + c.loop-low.low + digit * c.args.stride
      ≡ place_of c.args.stride c.args.size c.loop-low.low digit c.args.block = omega arith in
      rw place at (c.is_zero_line.ensures (search (rules, w.if-not-is_zero_line.false)) digit h)))
]
