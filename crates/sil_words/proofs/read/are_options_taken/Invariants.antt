use Rattle.std.proofs.Common.{◌≡◌}
use Rattle.sil_words.specs.Splitting.{told_by}
use Rattle.sil_words.proofs.Taking.{taken_from}
use Rattle.sil_words.proofs.read.are_options_taken.Given as goal

abbrev pub invariant-loop-choice : goal.invariant-loop-choice
invariant-loop-choice l = taken_from l.choices (told_by l.matches) 0 ≡ taken_from l.choices (told_by l.matches) l.choice-index
