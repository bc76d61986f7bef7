use Rattle.std.proofs.Common.{arith}
use Rattle.vector_laws.proofs.RowVectors.{row_is, same_row}
use Rattle.dense_power.proofs.dense.Dense.set_wide_row.Goals as goal

pub returns-clause-row : goal.returns-clause-row
returns-clause-row c =
    row_is c.loop-j.self c.args.i c.args.row.now (omega (arith, c.requires.row, c.loop-j.invariant.size))
    (λ j h. c.loop-j.invariant.written j (omega (arith, c.requires.row, c.loop-j.invariant.size)))

pub returns-clause-others : goal.returns-clause-others
returns-clause-others c = λ k differ.
    same_row c.loop-j.self c.args.self.now k c.loop-j.invariant.size
    (λ j h. c.loop-j.invariant.others k j (omega (arith, c.loop-j.invariant.size)) differ)
