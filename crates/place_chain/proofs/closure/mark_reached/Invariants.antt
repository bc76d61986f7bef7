use Rattle.std.proofs.Common.{◌≡◌, ℕ, length}
use Rattle.std.specs.Prelude.{true}
use Rattle.place_chain.specs.Marks.{is_marked, left_over, AreNeeded}
use Rattle.place_chain.proofs.closure.mark_reached.Given as goal

abbrev pub invariant-loop : goal.invariant-loop
invariant-loop l = record {
  kept : (i : ℕ) → is_marked l.initial.marks i ≡ true → is_marked l.marks i ≡ true;
  least : AreNeeded (length l.marks) l.columns.starts.now l.columns.entries.now l.initial.marks l.marks;
}

abbrev pub decreases-loop : goal.decreases-loop
decreases-loop l = left_over l.marks
