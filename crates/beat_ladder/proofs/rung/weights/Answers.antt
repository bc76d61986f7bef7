use Rattle.std.proofs.Common.{arith}
use Rattle.beat_ladder.proofs.Rungs.{first_power}
use Rattle.beat_ladder.proofs.rung.weights.Goals as goal

pub returns : goal.returns
returns c = first_power c.loop-k.numbers.items (omega arith) (λ k h. c.loop-k.invariant.made k (omega arith))
