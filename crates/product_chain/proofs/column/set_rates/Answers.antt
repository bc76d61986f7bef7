use Rattle.std.proofs.Common.{arith}
use Rattle.product_chain.proofs.Turns.{rate-turn}
use Rattle.product_chain.proofs.column.set_rates.Goals as goal

pub loop-rate-preserved : goal.loop-rate-preserved
loop-rate-preserved c =
    rate-turn c.args.hours c.args.beats c.args.rates.now c.loop-rate.rates c.loop-rate.rate-index c.ratio_down.result c.ratio_up.result
    c.loop-rate.invariant (omega arith)
    (rw (← c.from.ensures, ← c.from-in-loop-rate.ensures) c.ratio_down.ensures.floor) (rw (← c.from.ensures, ← c.from-in-loop-rate.ensures)
    c.ratio_up.ensures.ceiling)
