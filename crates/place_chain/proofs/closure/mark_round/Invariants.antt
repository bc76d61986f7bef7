use Rattle.std.proofs.Common.{◌≡◌, ℕ, ◌<◌, ◌≤◌, length}
use Rattle.std.specs.Prelude.{true, false, All}
use Rattle.product_chain.specs.Columns.{part}
use Rattle.place_chain.specs.Marks.{is_marked, left_over, AreNeeded}
use Rattle.place_chain.proofs.closure.mark_round.Given as goal

abbrev pub invariant-loop-j : goal.invariant-loop-j
invariant-loop-j l = record {
  kept : (i : ℕ) → is_marked l.initial.marks i ≡ true → is_marked l.marks i ≡ true;
  closed : l.found ≡ false → (k : ℕ) → k < l.j → is_marked l.marks k ≡ false → All (λ e. is_marked l.marks e.source ≡ false) (part l.columns.starts.now l.columns.entries.now k);
  fewer : l.found ≡ true → left_over l.marks < left_over l.initial.marks;
  most : left_over l.marks ≤ left_over l.initial.marks;
  least : AreNeeded (length l.initial.marks) l.columns.starts.now l.columns.entries.now l.initial.marks l.marks;
}
