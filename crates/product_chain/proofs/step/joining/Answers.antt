use Rattle.std.proofs.Common.{get_or}
use Rattle.product_chain.proofs.Joins.{found, not_found, joins_true, no_step}
use Rattle.product_chain.proofs.step.joining.Goals as goal

pub returns-then-steps-i-2-clause-joined : goal.returns-then-steps-i-2-clause-joined
returns-then-steps-i-2-clause-joined c = found c.args.steps.now c.loop-i.i c.args.step c.loop-i.invariant c.loop-i-test.true
    (joins_true (get_or c.args.steps.now c.loop-i.i no_step) c.args.step c.if-steps-i.true c.if-steps-i-2.true)

pub returns-clause-joined : goal.returns-clause-joined
returns-clause-joined c = not_found c.args.steps.now c.loop-i.i c.args.step c.loop-i-test.false c.loop-i.invariant
