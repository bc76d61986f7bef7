use Rattle.std.proofs.Common.{sym}
use Rattle.sil_top.proofs.Loading.{answers_of_file, answers_of_number}
use Rattle.sil_top.proofs.words.answer_to.Goals as goal

pub returns-then-reads_file : goal.returns-then-reads_file
returns-then-reads_file g c = answers_of_file _ _ _ _ _ c.in-Ok.ask c.in-Ok.ensures.ok (sym c.if-reads_file.ensures) _ c.answer_of_file.ensures

pub returns-in-Ok-answer_of_number : goal.returns-in-Ok-answer_of_number
returns-in-Ok-answer_of_number g c =
    answers_of_number _ _ c.args.shelf.now _ _ c.in-Ok.ask c.in-Ok.ensures.ok _ (sym c.if-reads_file.ensures) c.in-Ok-answer_of_number.ensures
