use Rattle.std.proofs.Common.{◌∙◌}
use Rattle.std.specs.Prelude.{codes, decimal}
use Rattle.std.proofs.lemmas.Result.{IfOk-weaker}
use Rattle.sil_model.specs.Sizes.{most_tests, most_states, most_beats, most_work}
use Rattle.sil_report.specs.Texts.{limit_fault_line_of}
use Rattle.sil_report.proofs.Pieces.{refusal_of_three, refusal_of_four}
use Rattle.sil_report.proofs.refusals.limit_line.Goals as goal

pub returns-in-TooManyTests : goal.returns-in-TooManyTests
unfolding limit_fault_line_of
returns-in-TooManyTests c =
    rw c.in-TooManyTests.is
    (IfOk-weaker c.format.result _ _ (λ text e. e ∙ refusal_of_three (decimal c.in-TooManyTests.n) (codes " channel tests, limit ") (decimal most_tests)) c.format.ensures.ok)

pub returns-in-TooManyStates : goal.returns-in-TooManyStates
unfolding limit_fault_line_of
returns-in-TooManyStates c =
    rw c.in-TooManyStates.is
    (IfOk-weaker c.format-in-TooManyStates.result _ _ (λ text e. e ∙ refusal_of_three (decimal c.in-TooManyStates.n) (codes " states, limit ") (decimal most_states)) c.format-in-TooManyStates.ensures.ok)

pub returns-in-TooManyBeats : goal.returns-in-TooManyBeats
unfolding limit_fault_line_of
returns-in-TooManyBeats c =
    rw c.in-TooManyBeats.is
    (IfOk-weaker c.format-in-TooManyBeats.result _ _ (λ text e. e ∙ refusal_of_three (decimal c.in-TooManyBeats.n) (codes " beats, limit ") (decimal most_beats)) c.format-in-TooManyBeats.ensures.ok)

pub returns-in-TooMuchWork : goal.returns-in-TooMuchWork
unfolding limit_fault_line_of
returns-in-TooMuchWork c =
    rw c.in-TooMuchWork.is
    (IfOk-weaker c.format-in-TooMuchWork.result _ _ (λ text e. e ∙ refusal_of_four (codes "work ") (decimal c.in-TooMuchWork.n) (codes ", limit ") (decimal most_work)) c.format-in-TooMuchWork.ensures.ok)
