-- The count vector of a full state of a loop, and its number.
use Rattle.std.specs.Prelude.{ℕ, List}
use Rattle.sil_model.specs.State.{FullState}
use Rattle.sil_model.specs.LoopValue.{groups_of}
use Rattle.sil_model.specs.Counts.{number_of}
use Rattle.sil_model.specs.declared.parts.Subsystem.{Subsystem}
use Rattle.count_laws.specs.CountsOf.{counts_of}

module _ (us : List Subsystem) where
  -- the count vector of a full state
  unfoldable pub counts_of_state : FullState → List ℕ
  counts_of_state s = counts_of (groups_of us) s

  -- the number of its count vector
  unfoldable pub number_of_state : FullState → ℕ
  number_of_state s = number_of (groups_of us) (counts_of_state s)
