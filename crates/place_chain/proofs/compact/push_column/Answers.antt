use Rattle.std.proofs.Common.{◌++◌, [], ◌∷◌, List, get_or, sym, ap, ◌∙◌, arith}
use Rattle.std.specs.Prelude.{Bool, if◌then◌else◌}
use Rattle.product_chain.specs.declared.column.Entry.{Entry}
use Rattle.place_chain.proofs.Begun.{compacted-turn, append-none}
use Rattle.place_chain.proofs.compact.push_column.Goals.{then-marks-i, else-marks-i}
use Rattle.place_chain.proofs.compact.push_column.Goals as goal

pub loop-entry-preserved : goal.loop-entry-preserved
loop-entry-preserved c =
    let none : Entry = record { source = 0; weight = 0 } in
    let e : Entry = get_or c.args.column.now c.loop-entry.entry-index none in
    let kept : Bool → List Entry = λ b. if b then record { source = get_or c.args.ranks.now e.source 0; weight = e.weight } ∷ [] else [] in
    elim c.if-marks-i.branch [
      | then-marks-i w ↦
          record {
            items =
                rw (w.entries-is)
                (compacted-turn c.args.marks.now c.args.ranks.now c.args.column.now c.loop-entry.entry-index none c.args.entries.now.items
                c.loop-entry.entries.items w.push_entry.new.entries.items c.loop-entry-test.true c.loop-entry.invariant.items
                (w.push_entry.ensures.items ∙ ap (λ b. c.loop-entry.entries.items ++ kept b) (sym w.if-marks-i.true)));
            capacity = rw (w.entries-is) (omega arith);
            len = rw (w.entries-is) (omega arith);
          }
      | else-marks-i w ↦
          record {
            items =
                rw (w.entries-is)
                (compacted-turn c.args.marks.now c.args.ranks.now c.args.column.now c.loop-entry.entry-index none c.args.entries.now.items
                c.loop-entry.entries.items c.loop-entry.entries.items c.loop-entry-test.true c.loop-entry.invariant.items
                (sym (append-none c.loop-entry.entries.items) ∙ ap (λ b. c.loop-entry.entries.items ++ kept b) (sym w.if-marks-i.false)));
            capacity = rw (w.entries-is) (omega arith);
            len = rw (w.entries-is) (omega arith);
          }
    ]
