use Rattle.std.proofs.Common.{◌≡◌, ℕ, ◌+◌, ◌/◌, ◌^◌, ◌<◌, get_or}
use Rattle.product_chain.specs.Columns.{part, given}
use Rattle.product_chain.proofs.gathering.gather.Given as goal

abbrev pub invariant-loop-j : goal.invariant-loop-j
invariant-loop-j g l = record {
  floors : (k : ℕ) → k < l.j → get_or l.to k 0 ≡ given (λ i. get_or l.from i 0) (part l.columns.starts.now l.columns.entries.now k) / 2 ^ 48;
  steps : l.steps ≡ l.initial.steps + get_or l.columns.starts.now l.j 0;
}
