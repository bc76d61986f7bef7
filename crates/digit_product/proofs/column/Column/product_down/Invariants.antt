use Rattle.std.proofs.Common.{◌≡◌, ◌+◌, take}
use Rattle.digit_product.specs.Columns.{weighed_from}
use Rattle.digit_product.proofs.column.Column.product_down.Given as goal

abbrev pub invariant-loop-entry : goal.invariant-loop-entry
invariant-loop-entry g l = record {
  total : l.total ≡ weighed_from l.v l.first (take l.entry-index l.self);
  steps : l.steps ≡ l.initial.steps + l.entry-index;
}
