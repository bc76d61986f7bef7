use Rattle.std.proofs.Common.{◌≡◌, sym, ◌∙◌}
use Rattle.std.specs.Prelude.{true, false}
use Rattle.entry_rates.specs.Entered.{is_up_by}
use Rattle.entry_rates.proofs.Turn.{answers_up}
use Rattle.entry_rates.proofs.CountRates.{entered-none, entered-all}
use Rattle.entry_rates.proofs.rates.entry_rate.Goals as goal

pub rates_down-requires-clause-up : goal.rates_down-requires-clause-up
rates_down-requires-clause-up c =
    sym (answers_up c.args.l.now.subsystems c.args.counts.now c.requires.counts.counts c.is_up.result c.is_up.ensures) ∙ c.if-is_up.true

pub returns-then-is_up : goal.returns-then-is_up
returns-then-is_up c =
    let up : is_up_by c.args.l.now.subsystems c.args.counts.now ≡ true =
    sym (answers_up c.args.l.now.subsystems c.args.counts.now c.requires.counts.counts c.is_up.result c.is_up.ensures) ∙ c.if-is_up.true in
    c.rates_down.ensures ∙ entered-all c.requires.counts up

pub returns-else-is_up : goal.returns-else-is_up
returns-else-is_up c =
    let down : is_up_by c.args.l.now.subsystems c.args.counts.now ≡ false =
    sym (answers_up c.args.l.now.subsystems c.args.counts.now c.requires.counts.counts c.is_up.result c.is_up.ensures) ∙ c.if-is_up.false in
    entered-none c.requires.counts down
