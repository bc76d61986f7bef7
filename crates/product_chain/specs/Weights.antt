-- The weights of a tick: its exact chances from one count vector to another, in units of 2^-48 and rounded.
use Rattle.std.specs.Prelude.{ℕ, ◌+◌, ◌-◌, ◌^◌, ◌<◌, ◌≤◌, List, if◌then◌else◌, ◌==◌}
use Rattle.sil_fraction.specs.Fraction.{Fraction, ◌*ℚ◌, ◌≤ℚ◌, whole, ratio}
use Rattle.sil_fraction.specs.Sum.{sum_below}
use Rattle.sil_model.specs.Budget.{lumped_events_of}
use Rattle.sil_model.specs.Series.{Values}
use Rattle.sil_model.specs.Sizes.{states_of}
use Rattle.sil_model.specs.declared.parts.Subsystem.{Subsystem}
use Rattle.lumped_laws.specs.ValueLists.{tick_list}
use Rattle.product_chain.specs.Floors.{floor_of, ceiling_of}

-- the value 1 at one number alone
abbrev pub one_at : ℕ → Values ℕ
one_at j k = if k == j then whole 1 else whole 0

module _ (us : List Subsystem) (hours beats : ℕ) where
  -- the exact chance of a tick from the count vector of the number i to that of the number j, in units of 2^-48
  abbrev pub chance_of : ℕ → ℕ → Fraction
  chance_of i j = tick_list us (ratio hours beats) (one_at j) i *ℚ whole (2 ^ 48)

  -- what leaves i in a tick, the chance of each other count vector rounded up
  abbrev pub leaving_of : ℕ → ℕ
  leaving_of i = sum_below (states_of us) (λ j. if i == j then 0 else ceiling_of (chance_of i j))

  -- the weight of a tick from i to j: the chance rounded down, and at i what does not leave, or 0
  unfoldable pub weight_of : ℕ → ℕ → ℕ
  weight_of i j = if i == j then 2 ^ 48 - leaving_of i else floor_of (chance_of i j)

  -- no weight is above its chance, and a row comes to at most 1 and lacks at most a unit for each event
  pub record IsRow (i : ℕ) : Type 0 where
    pub below : (j : ℕ) → j < states_of us → whole (weight_of i j) ≤ℚ chance_of i j
    pub most : sum_below (states_of us) (weight_of i) ≤ 2 ^ 48
    pub least : 2 ^ 48 ≤ sum_below (states_of us) (weight_of i) + lumped_events_of us
