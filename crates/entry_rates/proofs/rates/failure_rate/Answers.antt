use Rattle.std.proofs.Common.{◌≡◌, arith}
use Rattle.sil_model.specs.Budget.{failure_rate_of}
use Rattle.channel_counts.proofs.Subsystems.{in_range}
use Rattle.entry_rates.proofs.Greatest.{sum-start, sum-next, sum-end, failure_rate_small}
use Rattle.entry_rates.proofs.rates.failure_rate.Goals as goal

pub loop-i-init : goal.loop-i-init
loop-i-init c = sum-start c.args.l.now.subsystems

pub subsystem_rate-sum-requires : goal.subsystem_rate-sum-requires
subsystem_rate-sum-requires c =
    let is = c.subsystem.ensures c.subsystem.result.now in
    in_range c.args.l.now.subsystems c.len-i-end.ensures.valid.subsystems c.loop-i.i c.subsystem.result.now (omega arith) is

pub overflow_add-sum : goal.overflow_add-sum
overflow_add-sum c =
    let is = c.subsystem.ensures c.subsystem.result.now in
    let next = sum-next c.args.l.now.subsystems c.loop-i.i c.loop-i.sum c.loop-i.invariant c.subsystem.result.now (omega arith) is in
    omega (arith, next, c.subsystem_rate-sum.ensures, failure_rate_small c.args.l.now c.len-i-end.ensures.valid)

pub loop-i-preserved : goal.loop-i-preserved
loop-i-preserved c =
    let is = c.subsystem.ensures c.subsystem.result.now in
    rw c.subsystem_rate-sum.ensures (sum-next c.args.l.now.subsystems c.loop-i.i c.loop-i.sum c.loop-i.invariant c.subsystem.result.now (omega arith) is)

pub returns : goal.returns
returns c =
    let all : c.loop-i.sum ≡ failure_rate_of c.args.l.now.subsystems =
    sum-end c.args.l.now.subsystems c.loop-i.i c.loop-i.sum c.loop-i.invariant (omega arith) in
    record { rate = all; small = rw all (failure_rate_small c.args.l.now c.len-i-end.ensures.valid) }
