use Rattle.std.proofs.Common.{rules, ◌≡◌, ◌∙◌, ap₂, arith}
use Rattle.std.proofs.lemmas.Result.{IfOk-weaker}
use Rattle.clap.specs.Walk.{rule_of}
use Rattle.clap.specs.Simple.{with_rule}
use Rattle.sil_words.specs.Splitting.{position_rule}
use Rattle.sil_words.proofs.Commands.{all_rules, one_more}
use Rattle.sil_words.proofs.split.command_for.Goals as goal

pub loop-choice-preserved : goal.loop-choice-preserved
loop-choice-preserved c =
    c.in_ok-command.ensures.shape c.arg_for.ensures.local ∙ ap₂ with_rule c.loop-choice.invariant c.arg_for.ensures.rule
    ∙ one_more c.args.choices.now c.loop-choice.choice-index _ (omega arith)

pub returns : goal.returns
returns c =
    let position_is : rule_of c.action-position.result ≡ position_rule = search rules in
    IfOk-weaker c.arg-2.result _ _
    (λ r h. h.shape (search rules) ∙ ap₂ with_rule c.loop-choice.invariant position_is
    ∙ all_rules c.args.choices.now c.loop-choice.choice-index (omega arith)) c.arg-2.ensures
