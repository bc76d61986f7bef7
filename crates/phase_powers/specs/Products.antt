-- How many products a phase takes by the powers of its beat, at most.
use Rattle.std.specs.Prelude.{ℕ, ◌+◌, ◌*◌, ◌^◌, List}
use Rattle.sil_model.specs.Sizes.{states_of}
use Rattle.sil_model.specs.declared.parts.Subsystem.{Subsystem}
use Rattle.uniformise.specs.Beat.{beat_products}

module _ (us : List Subsystem) (order digits : ℕ) where
  -- to make the matrices: one beat from each state, and two doublings and two beats more for each binary digit of the beats
  abbrev pub making_products : ℕ
  making_products = states_of us * beat_products us order + 4 * states_of us ^ 3 * digits

  -- and to pass a vector by both
  abbrev pub powered_products : ℕ
  powered_products = making_products + 2 * states_of us ^ 2
