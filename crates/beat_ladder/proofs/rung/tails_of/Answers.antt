use Rattle.std.proofs.Common.{◌≡◌, ◌+◌, ◌-◌, drop, sum, slice_index, arith}
use Rattle.std.proofs.lemmas.List.Sums.{sum_by-drop_more, sum_by-take-drop}
use Rattle.beat_ladder.proofs.rung.tails_of.Goals as goal

pub overflow_add-above : goal.overflow_add-above
overflow_add-above c =
    let k : c.loop-k.k - 1 + 1 ≡ c.loop-k.k = omega arith in
    let more : sum (drop (c.loop-k.k - 1) c.args.numbers.now) ≡ slice_index c.args.numbers.now (c.loop-k.k - 1) + sum (drop c.loop-k.k c.args.numbers.now) =
    rw k at (sum_by-drop_more (λ n. n) c.args.numbers.now (c.loop-k.k - 1) 0 (omega arith)) in
    omega (arith, more, c.loop-k.invariant.above, sum_by-take-drop (λ n. n) c.args.numbers.now (c.loop-k.k - 1), c.requires.mass)
