use Rattle.std.proofs.Common.{◌≡◌, ◌+◌, ◌≤◌, length}
use Rattle.product_chain.specs.Columns.{AreWeighted}
use Rattle.place_chain.specs.Sweeps.{swept_to}
use Rattle.place_chain.proofs.estimate.sweep_up.Given as goal

abbrev pub invariant-loop-j : goal.invariant-loop-j
invariant-loop-j g l = record {
  long : length l.masses ≡ length l.fn.masses;
  columns : AreWeighted (length l.masses) (length l.masses) l.columns.starts.now l.columns.entries.now;
  counted : l.steps ≤ l.fn.steps + swept_to l.columns.starts.now l.j;
}
