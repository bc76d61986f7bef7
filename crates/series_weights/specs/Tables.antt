-- What the tables of weights hold.
use Rattle.std.specs.Prelude.{◌≡◌, ℕ, ◌<◌, ◌≤◌, slice_index}
use Rattle.sil_model.specs.WeightTable.{weight_of, mean_weight_of}
use Rattle.series_weights.specs.declared.Weights.TheInside.{Inside}

-- an order from 16 to 40, and the two weights of every number of steps
pub record HoldWeights (w : Inside) : Type 0 where
  pub least : 16 ≤ w.order
  pub greatest : w.order ≤ 40
  pub weights : (k : ℕ) → k < 41 → slice_index w.weights k ≡ weight_of k
  pub means : (k : ℕ) → k < w.order → slice_index w.means k ≡ mean_weight_of w.order k
