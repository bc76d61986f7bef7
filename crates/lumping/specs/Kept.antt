-- What a space keeps of its loop.
use Rattle.std.specs.Prelude.{◌≡◌, ℕ, ◌≤◌, List, All}
use Rattle.sil_model.specs.LoopValue.{groups_of}
use Rattle.sil_model.specs.Sizes.{states_over, most_states}
use Rattle.sil_model.specs.declared.parts.Subsystem.{Subsystem}
use Rattle.sil_model.specs.declared.parts.Group.{Group}

-- groups have at most eight channels, and there are few count vectors
pub record IsSmall (gs : List Group) : Type 0 where
  pub sizes : All (λ g. g.size ≤ 8) gs
  pub limit : states_over gs ≤ most_states

-- the groups of the subsystems, and how many count vectors they have
pub record IsKept (us : List Subsystem) (gs : List Group) (size : ℕ) : Type 0 where
  pub groups : gs ≡ groups_of us
  pub small : IsSmall gs
  pub count : size ≡ states_over gs
