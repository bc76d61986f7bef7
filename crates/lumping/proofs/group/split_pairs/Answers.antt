use Rattle.std.proofs.Common.{arith}
use Rattle.lumping.proofs.Fours.{none_at_first, pairs-next}
use Rattle.lumping.proofs.group.split_pairs.Goals as goal

pub loop-sum-init : goal.loop-sum-init
loop-sum-init c = omega (arith, none_at_first 2)

pub loop-sum-preserved : goal.loop-sum-preserved
loop-sum-preserved c = omega (arith, pairs-next c.loop-sum.sum)
