-- The steps of the subsystems of a loop, each along its digit of the numbers of count vectors.
use Rattle.std.specs.Prelude.{ℕ, ◌*◌, List, [], ◌∷◌}
use Rattle.sil_fraction.specs.Fraction.{Fraction}
use Rattle.sil_model.specs.Series.{Values}
use Rattle.sil_model.specs.Sizes.{states_of}
use Rattle.sil_model.specs.declared.parts.Subsystem.{Subsystem}
use Rattle.lumped_laws.specs.ValueLists.{tick_list}
use Rattle.separate_laws.specs.Digits.{along}

-- how many count vectors a subsystem has
abbrev pub states_in : Subsystem → ℕ
states_in u = states_of (u ∷ [])

-- the steps of h hours of subsystems whose first digit has this stride
abbrev pub steps_from : ℕ → List Subsystem → Fraction → List (Values ℕ → Values ℕ)
steps_from stride [] h = []
steps_from stride (u ∷ us) h = along stride (states_in u) (tick_list (u ∷ []) h) ∷ steps_from (stride * states_in u) us h

-- those of a loop
abbrev pub steps_of_subsystems : List Subsystem → Fraction → List (Values ℕ → Values ℕ)
steps_of_subsystems us h = steps_from 1 us h
