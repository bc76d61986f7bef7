use Rattle.std.proofs.Common.{arith, refl}
use Rattle.digit_product.proofs.Entries.{entries-none, entries-zero, entries-next}
use Rattle.digit_product.proofs.column.Column.of.Goals.{then-weight-gt0, else-weight-gt0}
use Rattle.digit_product.proofs.column.Column.of.Goals as goal

pub loop-row-init : goal.loop-row-init
loop-row-init c = rw c.new-column.ensures (entries-none c.args.matrix.now c.args.stride c.args.j)

pub loop-row-preserved : goal.loop-row-preserved
loop-row-preserved c = elim c.if-weight-gt0.branch [
  | then-weight-gt0 w ↦
      rw (w.column-is, w.push.ensures)
      (entries-next c.args.matrix.now c.args.stride c.args.j c.loop-row.row c.loop-row.column c.loop-row.invariant _ refl c.at-weight.ensures)
  | else-weight-gt0 w ↦
      rw w.column-is
      (entries-zero c.args.matrix.now c.args.stride c.args.j c.loop-row.row c.loop-row.column c.loop-row.invariant (omega (arith, w.if-weight-gt0.false, c.at-weight.ensures)))
]
