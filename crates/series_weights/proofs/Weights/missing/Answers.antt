use Rattle.std.proofs.Common.{◌≡◌, ◌+◌, ◌^◌, arith, slice_index}
use Rattle.sil_fraction.specs.Sum.{sum_below}
use Rattle.sil_fraction.proofs.Sums.{sum-none, sum-next}
use Rattle.sil_model.specs.WeightTable.{weight_of, missing_of}
use Rattle.series_weights.proofs.Sums.{sum_weights_le, missing_rest, means_are_many}
use Rattle.series_weights.proofs.Weights.missing.Goals as goal

pub loop-k-init : goal.loop-k-init
loop-k-init c = omega (arith, sum-none weight_of)

-- one weight more is still within the whole
one_more : (c : goal.After-missing-1) → slice_index c.self.inside.weights c.loop-k.k + sum_below c.loop-k.k weight_of ≡ sum_below (c.loop-k.k + 1) weight_of
one_more c = omega (arith, sum-next c.loop-k.k weight_of, c.self.invariant.weights c.loop-k.k (omega (arith, c.self.invariant.greatest, c.from-k-end.ensures)))

pub overflow_sub-missing : goal.overflow_sub-missing
overflow_sub-missing c = omega (arith, one_more c, c.loop-k.invariant, sum_weights_le (c.loop-k.k + 1) (omega (arith, c.self.invariant.greatest, c.from-k-end.ensures)))

pub loop-k-preserved : goal.loop-k-preserved
loop-k-preserved c = omega (arith, one_more c, c.loop-k.invariant, sum_weights_le (c.loop-k.k + 1) (omega (arith, c.self.invariant.greatest, c.from-k-end.ensures)))

-- what is left is what is missing
left : (c : goal.After-from) → c.from.result ≡ missing_of c.args.self.now
left c =
    let k : c.loop-k.k ≡ c.args.self.now = omega (arith, c.from-k-end.ensures, c.self.view_is) in
    let i : c.loop-k.missing + sum_below c.args.self.now weight_of ≡ 2 ^ 48 = rw k at c.loop-k.invariant in
    omega (arith, i, c.from.ensures, missing_rest c.args.self.now (omega (arith, c.self.invariant.greatest, c.self.view_is)))

pub returns-clause-value : goal.returns-clause-value
returns-clause-value c = left c

pub returns-clause-rest : goal.returns-clause-rest
returns-clause-rest c = omega (arith, left c, missing_rest c.args.self.now (omega (arith, c.self.invariant.greatest, c.self.view_is)))

pub returns-clause-means : goal.returns-clause-means
returns-clause-means c = omega (arith, left c, means_are_many c.args.self.now (omega (arith, c.self.invariant.greatest, c.self.view_is)))
