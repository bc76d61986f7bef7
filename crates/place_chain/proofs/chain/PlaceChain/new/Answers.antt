use Rattle.std.proofs.Common.{◌≤◌, ◌+◌, ◌-◌, length, ap, arith}
use Rattle.std.proofs.Math.Nat.{mul-le-mul}
use Rattle.sil_model.specs.Sizes.{most_states}
use Rattle.product_chain.proofs.Pushed.{events-few}
use Rattle.place_chain.proofs.chain.PlaceChain.new.Goals as goal

pub overflow_mul-size : goal.overflow_mul-size
overflow_mul-size c =
    let l = c.args.l.now in
    let few : c.len.result ≤ 210 = omega (arith, events-few l (rw (← c.requires.same) at c.columns-columns.ensures.valid), ap length c.in_ok-events.ensures.listed) in
    let most : length c.columns-columns.result.starts.now ≤ most_states + 1 = omega (arith, c.columns-columns.ensures.weights.columns.parts.number, c.columns-columns.ensures.few) in
    let size : length c.columns-columns.result.starts.now - 1 ≤ most_states = omega (arith, most) in
    omega (arith, mul-le-mul size few)
