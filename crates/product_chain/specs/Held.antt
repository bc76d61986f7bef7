-- Columns that hold the weights of a tick.
use Rattle.std.specs.Prelude.{◌≡◌, ℕ, ◌+◌, ◌*◌, ◌<◌, ◌≤◌, List, length, All}
use Rattle.sil_fraction.specs.Sum.{sum_below}
use Rattle.sil_model.specs.Budget.{lumped_events_of}
use Rattle.sil_model.specs.Sizes.{states_of}
use Rattle.sil_model.specs.declared.parts.Subsystem.{Subsystem}
use Rattle.product_chain.specs.declared.column.Entry.{Entry}
use Rattle.product_chain.specs.Columns.{part, given, AreWeighted}
use Rattle.product_chain.specs.Weights.{weight_of}

-- no entry is without weight, and whatever a vector is, each column is given what the weights to its target give
pub record HoldWeights (us : List Subsystem) (hours beats : ℕ) (starts : List ℕ) (entries : List Entry) : Type 0 where
  pub columns : AreWeighted (states_of us) (states_of us) starts entries
  pub positive : (j : ℕ) → j < states_of us → All (λ e. 0 < e.weight) (part starts entries j)
  pub weights : (v : ℕ → ℕ) (j : ℕ) → j < states_of us → given v (part starts entries j) ≡ sum_below (states_of us) (λ i. v i * weight_of us hours beats i j)
  pub number : length entries ≤ states_of us * (lumped_events_of us + 1)
