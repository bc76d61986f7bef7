use Rattle.std.proofs.Common.{◌≡◌, ◌+◌, ◌^◌}
use Rattle.sil_fraction.specs.Sum.{sum_below}
use Rattle.sil_model.specs.WeightTable.{weight_of}
use Rattle.series_weights.proofs.Weights.missing.Given as goal

abbrev pub invariant-loop-k : goal.invariant-loop-k
invariant-loop-k l = l.missing + sum_below l.k weight_of ≡ 2 ^ 48
