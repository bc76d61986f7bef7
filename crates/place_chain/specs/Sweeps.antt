-- The products of sweeps over the columns of a chain.
use Rattle.std.specs.Prelude.{ℕ, ◌+◌, ◌*◌, List, slice_index}
use Rattle.sil_model.specs.Budget.{lumped_events_of}
use Rattle.sil_model.specs.Sizes.{states_of}
use Rattle.sil_model.specs.declared.parts.Subsystem.{Subsystem}

-- those of a sweep over the columns of the first j targets, at most: one for each entry, and one more at each target
abbrev pub swept_to : List ℕ → ℕ → ℕ
swept_to starts j = slice_index starts j + j

-- those of a choice of places, at most: three sweeps over all columns
abbrev pub choice_products : List Subsystem → ℕ
choice_products us = 3 * states_of us * (lumped_events_of us + 2)
