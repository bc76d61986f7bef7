use Rattle.std.proofs.Common.{◌≡◌, ◌*◌, ◌^◌, ◌<◌, ◌≤◌, slice_index, arith}
use Rattle.phase_run.proofs.Means.{product_small}
use Rattle.phase_run.proofs.settle.Goals as goal

pub overflow_mul-dwell_hours : goal.overflow_mul-dwell_hours
overflow_mul-dwell_hours c =
    let same : slice_index c.loop-k.dwell c.loop-k.k ≡ slice_index c.args.dwell.now c.loop-k.k =
    c.loop-k.invariant.dwell_left c.loop-k.k (omega arith) (omega (arith, c.loop-k.invariant.long)) in
    let most : slice_index c.args.dwell.now c.loop-k.k ≤ c.args.beats * 2 ^ 48 = c.requires.dwell c.loop-k.k (omega (arith, c.loop-k.invariant.long)) in
    let small : c.from.result * slice_index c.loop-k.dwell c.loop-k.k < 2 ^ 128 =
    product_small c.from.result (slice_index c.loop-k.dwell c.loop-k.k) c.args.beats (omega (arith, c.from.ensures, c.requires.short))
    (omega (arith, same, most)) c.requires.few in
    omega (arith, small)
