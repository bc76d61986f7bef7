use Rattle.std.proofs.Common.{◌≡◌, refl, sym, arith}
use Rattle.std.proofs.lemmas.Bool.{leb-true}
use Rattle.sil_fraction.proofs.Sums.{sum-none}
use Rattle.dense_power.proofs.Products.{sum_more}
use Rattle.vector_laws.proofs.RowVectors.{sum-row_of}
use Rattle.tick_runs.proofs.tests.powers.is_row_small.Goals as goal

pub loop-j-init : goal.loop-j-init
loop-j-init c = record { sum = sym (sum-none _); small = omega arith }

pub loop-j-preserved : goal.loop-j-preserved
loop-j-preserved c = record {
  sum = sum_more _ _ _ c.loop-j.j _ c.loop-j.invariant.sum refl c.at-entry.ensures;
  small = omega (arith, c.loop-j.invariant.small);
}

pub returns : goal.returns
returns c h =
    let all : c.loop-j.j ≡ c.args.m.now.size = omega arith in
    omega (arith, sum-row_of c.args.m.now c.args.i, rw all at c.loop-j.invariant.sum, leb-true c.loop-j.sum 281474976710656 h)
