use Rattle.std.proofs.Common.{◌+◌, sym, ap, ◌∙◌, arith}
use Rattle.phase_separate.proofs.Passing.{IsNext}
use Rattle.phase_separate.proofs.Changes.{changed, none_changed, one_changed, all_are_changed, current}
use Rattle.phase_separate.proofs.visit.double_powers.Goals as goal

pub loop-subsystem-init : goal.loop-subsystem-init
loop-subsystem-init g c = λ all. none_changed (λ n. n + n) c.args.chain.now c.args.passed c.args.subsystems.now all c.args.steps.now

pub double-requires : goal.double-requires
double-requires g c =
    let k = c.loop-subsystem in
    let next : IsNext c.args.chain.now c.args.passed c.args.chain.now.of.subsystems k.subsystem-index c.subsystem-item.result =
    current (λ n. n + n) c.args.chain.now c.args.passed c.args.subsystems.now c.requires.subsystems k.subsystem-index k.subsystems c.args.steps.now k.steps
    (k.invariant c.requires.subsystems) c.loop-subsystem-test.true c.subsystem-item.result c.subsystem-item.is in
    record { begun = rw (← c.subsystem-item.is, next.power) c.requires.some }

pub loop-subsystem-preserved : goal.loop-subsystem-preserved
loop-subsystem-preserved g c = λ all.
    let k = c.loop-subsystem in
    one_changed (λ n. n + n) c.args.chain.now c.args.passed c.args.subsystems.now all k.subsystem-index k.subsystems c.args.steps.now k.steps
    (k.invariant all) c.loop-subsystem-test.true c.subsystem-item.result c.subsystem-item.is c.double.new.self c.double.new.steps
    (c.double.ensures.value ∙ ap (changed (λ n. n + n)) (sym c.subsystem-item.is)) (rw (← c.subsystem-item.is) at c.double.ensures.steps)

pub returns-clause-subsystems : goal.returns-clause-subsystems
returns-clause-subsystems g c =
    let k = c.loop-subsystem in
    all_are_changed (λ n. n + n) c.args.chain.now c.args.passed c.args.subsystems.now c.requires.subsystems k.subsystem-index k.subsystems c.args.steps.now k.steps
    (k.invariant c.requires.subsystems) (omega (arith, c.loop-subsystem-test.false))

pub returns-clause-steps : goal.returns-clause-steps
returns-clause-steps g c = omega (arith, (c.loop-subsystem.invariant c.requires.subsystems).products)
