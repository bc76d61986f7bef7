use Rattle.std.proofs.Common.{◌≡◌, ◌+◌, ◌*◌, ◌^◌, ◌≤◌, sum, ap, ◌∙◌, arith}
use Rattle.beat_ladder.proofs.Rungs.{beats-le, dwelt_within, dwell_fits, dwell_small}
use Rattle.beat_ladder.proofs.rung.Rung.dwell_missing.Goals as goal
use Rattle.beat_ladder.proofs.rung.Rung.dwell_missing.Goals.{After-from}

pub overflow_mul-dwell : goal.overflow_mul-dwell
overflow_mul-dwell c =
    let r = c.args.self.now in
    omega (arith, (dwell_small r.exponent r.low r.numbers.items r.held r.tails.items r.tailed r.flat r.few r.flat_is).0)

pub total-requires : goal.total-requires
total-requires c =
    let r = c.args.self.now in
    rw c.deref.ensures.value (omega (arith, (dwell_small r.exponent r.low r.numbers.items r.held r.tails.items r.tailed r.flat r.few r.flat_is).1))

pub overflow_add-dwell : goal.overflow_add-dwell
overflow_add-dwell c =
    let r = c.args.self.now in
    let e : c.total.result ≡ sum r.tails.items = rw c.deref.ensures.value at c.total.ensures in
    omega (arith, dwell_fits r.exponent r.low r.numbers.items r.held r.tails.items r.tailed r.flat c.total.result r.flat_is e, beats-le r.exponent r.few)

-- the beats in units, and the dwell
units : (c : After-from) → c.from.result * 2 ^ 48 ≡ 2 ^ c.args.self.now.exponent * 2 ^ 48
units c = ap (λ n. n * 2 ^ 48) (c.from.ensures ∙ c.beats.ensures.value)

dwell : (c : After-from) → c.args.self.now.low * c.args.self.now.flat + c.total.result ≡ c.args.self.now.low * sum c.args.self.now.numbers.items + sum c.args.self.now.tails.items
dwell c =
    let e : c.total.result ≡ sum c.args.self.now.tails.items = rw c.deref.ensures.value at c.total.ensures in
    omega (arith, e, ap (λ n. c.args.self.now.low * n) c.args.self.now.flat_is)

within : (c : After-from) → c.args.self.now.low * sum c.args.self.now.numbers.items + sum c.args.self.now.tails.items ≤ 2 ^ c.args.self.now.exponent * 2 ^ 48
within c = let r = c.args.self.now in dwelt_within r.exponent r.low r.numbers.items r.held r.tails.items r.tailed

pub overflow_sub-result : goal.overflow_sub-result
overflow_sub-result c = omega (arith, units c, dwell c, within c)

pub returns : goal.returns
returns c = omega (arith, units c, dwell c, within c)
