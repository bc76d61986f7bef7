use Rattle.std.proofs.Common.{◌≡◌, arith}
use Rattle.sil_model.specs.WeightTable.{weight_of}
use Rattle.series_weights.proofs.Below.{below_term}
use Rattle.series_weights.proofs.Sums.{weight_falls, weight_le}
use Rattle.series_weights.proofs.Weights.w.Goals as goal

-- the entry of the table
entry : (c : goal.After-from-2) → c.from-2.result ≡ weight_of c.args.k
entry c = rw (c.from-2.ensures, c.from.ensures) (c.self.invariant.weights c.args.k (omega (arith, c.self.invariant.greatest, c.self.view_is)))

pub returns-clause-below : goal.returns-clause-below
returns-clause-below c = rw (entry c) (below_term c.args.k)

pub returns-clause-falls : goal.returns-clause-falls
returns-clause-falls c = rw (entry c) (weight_falls c.args.k)

pub returns-clause-small : goal.returns-clause-small
returns-clause-small c = rw (entry c) (weight_le c.args.k)
