use Rattle.std.proofs.Common.{arith}
use Rattle.vector_laws.proofs.Masses.{place-le}
use Rattle.test_matrix.proofs.whole.join.Goals as goal

pub overflow_add-v : goal.overflow_add-v
overflow_add-v c =
    omega (
      arith,
      c.requires.mass,
      c.loop-j.invariant.same c.loop-j.j (omega arith),
      place-le c.args.v.now c.loop-j.j,
      place-le c.args.part.now c.loop-j.j,
    )
