use Rattle.std.proofs.Common.{ap, arith}
use Rattle.subsystem_power.specs.Powers.{PowerValue}
use Rattle.phase_separate.specs.Subsystems.{loops_of}
use Rattle.phase_separate.proofs.Begun.{alone_timed, one_pushed, all_pushed}
use Rattle.phase_separate.proofs.subsystems.subsystems_of.Goals as goal

pub loop-i-init : goal.loop-i-init
loop-i-init c = ap loops_of c.in_ok-subsystems.ensures.items

pub new-requires-clause-timed : goal.new-requires-clause-timed
new-requires-clause-timed c = λ d.
    alone_timed c.args.l.now.subsystems c.args.hours c.args.beats c.loop-i.i d (omega (arith, c.len-i-end.ensures.len)) c.requires.timed

pub loop-i-preserved : goal.loop-i-preserved
loop-i-preserved c =
    rw c.in_ok-push.ensures.items
    (one_pushed c.args.l.now c.loop-i.subsystems.items c.loop-i.i c.in_ok-new.field-0 (omega (arith, c.len-i-end.ensures.len)) c.loop-i.invariant
    (λ d. ap (λ (p : PowerValue). p.chain.of) (c.in_ok-new.ensures d)))

pub returns : goal.returns
returns c = all_pushed c.args.l.now c.loop-i.subsystems.items c.loop-i.i (omega (arith, c.len-i-end.ensures.len)) c.loop-i.invariant
