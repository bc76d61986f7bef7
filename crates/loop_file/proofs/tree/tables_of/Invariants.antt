use Rattle.std.proofs.Common.{◌≡◌, ◌++◌, map, drop}
use Rattle.toml.specs.View.{items_view, table_view}
use Rattle.loop_file.specs.LoopFile.{entry_checks, tables_of}
use Rattle.loop_file.specs.Walk.{first_fault}
use Rattle.loop_file.proofs.tree.tables_of.Given as goal

abbrev pub invariant-loop-i : goal.invariant-loop-i
invariant-loop-i l = record {
  pass : first_fault (entry_checks l.key l.i (items_view (drop l.i l.entries))) ≡ first_fault (entry_checks l.key 0 (items_view l.entries));
  tables : map (λ t. table_view t.now) l.tables.items ++ tables_of (items_view (drop l.i l.entries)) ≡ tables_of (items_view l.entries);
}
