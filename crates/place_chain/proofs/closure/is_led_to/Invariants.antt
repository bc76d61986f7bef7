use Rattle.std.proofs.Common.{◌≡◌, ℕ, ◌<◌, get_or}
use Rattle.std.specs.Prelude.{false}
use Rattle.product_chain.specs.declared.column.Entry.{Entry}
use Rattle.place_chain.specs.Marks.{is_marked}
use Rattle.place_chain.proofs.closure.is_led_to.Given as goal

abbrev pub invariant-loop-entry : goal.invariant-loop-entry
invariant-loop-entry l = (k : ℕ) (d : Entry) → k < l.entry-index → is_marked l.marks (get_or l.column k d).source ≡ false
