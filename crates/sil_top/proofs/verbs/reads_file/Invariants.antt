use Rattle.std.proofs.Common.{◌≡◌}
use Rattle.sil_top.specs.Run.{reads_file}
use Rattle.sil_top.proofs.FileRows.{reads_from}
use Rattle.sil_top.proofs.verbs.reads_file.Given as goal

abbrev pub invariant-loop-row : goal.invariant-loop-row
invariant-loop-row l = reads_file l.verb ≡ reads_from l.rows l.verb l.row-index
