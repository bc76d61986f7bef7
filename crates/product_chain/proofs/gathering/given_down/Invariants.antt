use Rattle.std.proofs.Common.{◌≡◌, ◌+◌, take, get_or}
use Rattle.product_chain.specs.Columns.{given}
use Rattle.product_chain.proofs.gathering.given_down.Given as goal

abbrev pub invariant-loop-entry : goal.invariant-loop-entry
invariant-loop-entry g l = record {
  sum : l.sum.sum ≡ given (λ i. get_or l.from i 0) (take l.entry-index l.column);
  number : l.sum.number ≡ l.entry-index;
  steps : l.steps ≡ l.initial.steps + l.entry-index;
}
