use Rattle.std.proofs.Common.{sym, ap, ◌∙◌}
use Rattle.phase_separate.proofs.Begun.{begun, none_begun, one_timed, one_begun, all_begun, all_products}
use Rattle.phase_separate.proofs.subsystems.begin.Goals as goal

pub loop-i-init : goal.loop-i-init
loop-i-init g c = none_begun c.args.hours c.args.beats c.args.subsystems.now c.args.steps.now

pub begin-requires-clause-timed : goal.begin-requires-clause-timed
begin-requires-clause-timed g c =
    let k = c.loop-i in
    rw (← c.index-subsystems-i.is)
    (one_timed c.args.hours c.args.beats c.args.subsystems.now k.i k.subsystems c.args.steps.now k.steps k.invariant c.loop-i-test.true
    c.index-subsystems-i.result c.index-subsystems-i.is c.args.chain.now.of c.requires.subsystems c.requires.timed)

pub loop-i-preserved : goal.loop-i-preserved
loop-i-preserved g c =
    let k = c.loop-i in
    one_begun c.args.hours c.args.beats c.args.subsystems.now k.i k.subsystems c.args.steps.now k.steps k.invariant c.loop-i-test.true
    c.index-subsystems-i.result c.index-subsystems-i.is c.begin.new.self c.begin.new.steps
    (c.begin.ensures.value ∙ ap (begun c.args.hours c.args.beats) (sym c.index-subsystems-i.is))
    (rw (← c.index-subsystems-i.is) at c.begin.ensures.steps)

pub returns-clause-subsystems : goal.returns-clause-subsystems
returns-clause-subsystems g c =
    let k = c.loop-i in
    all_begun c.args.hours c.args.beats c.args.subsystems.now k.i k.subsystems c.args.steps.now k.steps k.invariant c.loop-i-test.false
    c.args.chain.now c.requires.subsystems c.requires.hours c.requires.beats

pub returns-clause-steps : goal.returns-clause-steps
returns-clause-steps g c =
    let k = c.loop-i in
    all_products c.args.hours c.args.beats c.args.subsystems.now k.i k.subsystems c.args.steps.now k.steps k.invariant c.loop-i-test.false
    c.args.chain.now c.requires.subsystems
