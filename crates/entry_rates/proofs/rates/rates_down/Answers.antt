use Rattle.std.proofs.Common.{arith}
use Rattle.entry_rates.proofs.CountRates.{none-yet, sum-small, all-added, rate-small, one-more, stands}
use Rattle.entry_rates.proofs.rates.rates_down.Goals as goal

pub loop-event-init : goal.loop-event-init
loop-event-init c = none-yet c.requires.counts c.requires.up c.requires.events

pub rate_down-sum-requires-clause-event : goal.rate_down-sum-requires-clause-event
rate_down-sum-requires-clause-event c =
    stands c.requires.counts c.requires.up c.requires.events c.loop-event.sum c.loop-event.event-index c.loop-event.invariant c.loop-event-test.true

pub rate_down-sum-requires-clause-small : goal.rate_down-sum-requires-clause-small
rate_down-sum-requires-clause-small c =
    let small =
    rate-small c.requires.counts c.requires.up c.requires.events c.loop-event.sum c.loop-event.event-index c.loop-event.invariant c.loop-event-test.true in
    omega (arith, small)

pub overflow_add-sum : goal.overflow_add-sum
overflow_add-sum c =
    let small =
    rate-small c.requires.counts c.requires.up c.requires.events c.loop-event.sum c.loop-event.event-index c.loop-event.invariant c.loop-event-test.true in
    rw c.rate_down-sum.ensures (omega (arith, small))

pub loop-event-preserved : goal.loop-event-preserved
loop-event-preserved c =
    rw c.rate_down-sum.ensures
    (one-more c.requires.counts c.requires.up c.requires.events c.loop-event.sum c.loop-event.event-index c.loop-event.invariant c.loop-event-test.true)

pub overflow_cast-result : goal.overflow_cast-result
overflow_cast-result c =
    let small = sum-small c.requires.counts c.requires.up c.requires.events c.loop-event.sum c.loop-event.event-index c.loop-event.invariant in
    omega (arith, small)

pub returns : goal.returns
returns c = all-added c.requires.counts c.requires.up c.requires.events c.loop-event.sum c.loop-event.event-index c.loop-event.invariant c.loop-event-test.false
