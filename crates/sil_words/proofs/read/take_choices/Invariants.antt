use Rattle.std.proofs.Common.{◌≡◌}
use Rattle.sil_words.specs.Splitting.{told_by}
use Rattle.sil_words.proofs.Taking.{asked_from}
use Rattle.sil_words.proofs.read.take_choices.Given as goal

abbrev pub invariant-loop-choice : goal.invariant-loop-choice
invariant-loop-choice l = asked_from l.choices (told_by l.matches) 0 l.fn.ask ≡ asked_from l.choices (told_by l.matches) l.choice-index l.ask
