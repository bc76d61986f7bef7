use Rattle.std.proofs.Common.{◌^◌, length, arith, sum}
use Rattle.test_matrix.proofs.Hour.{group_loss}
use Rattle.test_matrix.proofs.whole.test_both.Goals as goal

pub returns-clause-loses : goal.returns-clause-loses
returns-clause-loses g c =
    λ lack h. group_loss (length c.args.up.now) (2 ^ 48) lack (sum c.args.up.now) (sum c.args.down.now)
    (sum c.test_group.new.v) (sum c.test_group-2.new.v) (omega arith) c.requires.mass
    (c.test_group.ensures.loses lack h) (omega (arith, c.test_group-2.ensures.loses lack h))
