use Rattle.std.proofs.Common.{◌∙◌, sym, ap, arith}
use Rattle.std.proofs.lemmas.Result.{IfOk-weaker}
use Rattle.verb_table.specs.Rows.{seen_row}
use Rattle.verb_table.specs.Table.{row_named}
use Rattle.sil_words.proofs.Answering.{called_first}
use Rattle.sil_words.proofs.read.read_words.Goals as goal

pub returns-in-Some-clause-ok : goal.returns-in-Some-clause-ok
returns-in-Some-clause-ok c =
    IfOk-weaker c.read_after.result _ _
    (called_first (seen_row c.in-Some.row.now) c.args.words.now c.first-item.result (omega arith) c.first-item.is
    (ap row_named (sym c.as_str.ensures.value) ∙ c.in-Some.ensures)) c.read_after.ensures.ok
