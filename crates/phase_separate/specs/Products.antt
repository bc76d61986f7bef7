-- How many products a phase takes where each subsystem passes its beats for itself, at most.
use Rattle.std.specs.Prelude.{ℕ, ◌+◌, ◌*◌, ◌^◌, List, [], ◌∷◌, sum_by}
use Rattle.sil_model.specs.Sizes.{states_of}
use Rattle.sil_model.specs.declared.parts.Subsystem.{Subsystem}
use Rattle.uniformise.specs.Beat.{beat_products}
use Rattle.separate_laws.specs.Subsystems.{states_in}
use Rattle.subsystem_power.specs.Powers.{begin_products}

module _ (us : List Subsystem) where
  -- to pass all subsystems once: at each count vector as many as each subsystem has states
  abbrev pub along_products : ℕ
  along_products = states_of us * sum_by states_in us

  -- to make a power twice as long, or by a beat longer
  abbrev pub power_products : ℕ
  power_products = sum_by (λ u. states_in u ^ 3) us

  -- to begin, for each binary digit of the beats twice each of these, for the end three, and one beat of the loop
  abbrev pub separate_products : ℕ → ℕ
  separate_products digits = sum_by (λ u. begin_products (u ∷ [])) us + 2 * digits * (along_products + power_products) + 3 * along_products
      + beat_products us 16
