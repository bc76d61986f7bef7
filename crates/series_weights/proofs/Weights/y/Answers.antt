use Rattle.std.proofs.Common.{◌≡◌, arith}
use Rattle.sil_model.specs.WeightTable.{mean_weight_of}
use Rattle.series_weights.proofs.Below.{below_tail}
use Rattle.series_weights.proofs.Sums.{mean_le}
use Rattle.series_weights.proofs.Weights.y.Goals as goal

-- the entry of the table
entry : (c : goal.After-from-2) → c.from-2.result ≡ mean_weight_of c.args.self.now c.args.k
entry c = rw (c.from-2.ensures, c.from.ensures, ← c.self.view_is) (c.self.invariant.means c.args.k (omega (arith, c.self.view_is, c.requires)))

pub returns-clause-below : goal.returns-clause-below
returns-clause-below c = rw (entry c) (below_tail c.args.self.now c.args.k (omega (arith, c.requires)))

pub returns-clause-small : goal.returns-clause-small
returns-clause-small c = rw (entry c) (mean_le c.args.self.now c.args.k (omega (arith, c.self.invariant.greatest, c.self.view_is)))
