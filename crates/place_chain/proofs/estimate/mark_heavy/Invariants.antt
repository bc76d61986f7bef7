use Rattle.std.proofs.Common.{◌≡◌, ℕ, ◌+◌, ◌<◌, ◌≤◌, length, slice_index}
use Rattle.std.specs.Prelude.{true}
use Rattle.product_chain.specs.Columns.{AreWeighted}
use Rattle.place_chain.specs.Marks.{is_marked}
use Rattle.place_chain.specs.Sweeps.{swept_to}
use Rattle.place_chain.proofs.estimate.mark_heavy.Given as goal

abbrev pub invariant-loop-j : goal.invariant-loop-j
invariant-loop-j g l = record {
  long : length l.marks ≡ length l.fn.marks;
  columns : AreWeighted (length l.marks) (length l.marks) l.columns.starts.now l.columns.entries.now;
  held : (i : ℕ) → i < l.j → l.fn.least < slice_index l.v i → is_marked l.marks i ≡ true;
  counted : l.steps ≤ l.initial.steps + swept_to l.columns.starts.now l.j;
}
