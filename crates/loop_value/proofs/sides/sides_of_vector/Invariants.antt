use Rattle.loop_value.proofs.Places.{AreSidesBelow}
use Rattle.loop_value.proofs.sides.sides_of_vector.Given as goal

abbrev pub invariant-loop-i : goal.invariant-loop-i
invariant-loop-i l = AreSidesBelow l.i l.up l.v l.sides.down l.sides.up
