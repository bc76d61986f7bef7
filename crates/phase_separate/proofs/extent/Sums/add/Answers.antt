use Rattle.std.proofs.Common.{refl, arith}
use Rattle.phase_separate.proofs.ExtentSums.{cube}
use Rattle.phase_separate.proofs.extent.Sums.add.Goals as goal

pub returns : goal.returns
returns c = record {
  states = refl;
  cubes = omega (arith, cube c.args.size.states);
  begin = rw c.products_of_beat.ensures (omega (arith, cube c.args.size.states));
  lack = omega arith;
}
