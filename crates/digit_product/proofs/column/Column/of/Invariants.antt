use Rattle.digit_product.specs.Columns.{AreEntries}
use Rattle.digit_product.proofs.column.Column.of.Given as goal

abbrev pub invariant-loop-row : goal.invariant-loop-row
invariant-loop-row l = AreEntries l.matrix l.stride l.j l.row l.column
