use Rattle.std.proofs.Common.{◌≡◌}
use Rattle.clap.specs.Simple.{app_of}
use Rattle.sil_words.specs.Splitting.{command_with}
use Rattle.sil_words.proofs.Commands.{rules_so_far}
use Rattle.sil_words.proofs.split.command_for.Given as goal

abbrev pub invariant-loop-choice : goal.invariant-loop-choice
invariant-loop-choice l = app_of l.command ≡ command_with (rules_so_far l.choices l.choice-index)
