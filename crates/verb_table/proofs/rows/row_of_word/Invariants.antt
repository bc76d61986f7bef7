use Rattle.std.proofs.Common.{◌≡◌}
use Rattle.verb_table.specs.Table.{row_named}
use Rattle.verb_table.proofs.Finding.{row_from}
use Rattle.verb_table.proofs.rows.row_of_word.Given as goal

abbrev pub invariant-loop-row : goal.invariant-loop-row
invariant-loop-row l = row_named l.word ≡ row_from l.rows l.word l.row-index
