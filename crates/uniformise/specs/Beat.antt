-- One beat of a vector by a chain: the step that its ticks stay below, what it loses, and how many products it takes.
use Rattle.std.specs.Prelude.{◌≡◌, ℕ, ◌+◌, ◌*◌, List}
use Rattle.sil_fraction.specs.Fraction.{Fraction, ratio}
use Rattle.sil_model.specs.Series.{Values}
use Rattle.sil_model.specs.Sizes.{states_of}
use Rattle.sil_model.specs.declared.parts.Subsystem.{Subsystem}
use Rattle.lumped_laws.specs.ValueLists.{tick_list}
use Rattle.product_chain.specs.Kept.{ChainValue}
use Rattle.sil_model.specs.Budget.{lumped_events_of}
use Rattle.sil_model.specs.WeightTable.{missing_of}

-- the hours of a beat
abbrev pub hours_of_beat : ChainValue → Fraction
hours_of_beat c = ratio c.hours c.beats

-- the step of values that a tick of the chain stays below
abbrev pub IsStep : ChainValue → (Values ℕ → Values ℕ) → Type 0
IsStep c T = T ≡ tick_list c.of.subsystems (hours_of_beat c)

module _ (us : List Subsystem) where
  -- what one tick loses, at most
  abbrev pub tick_loss : ℕ
  tick_loss = 2 * lumped_events_of us + states_of us

  -- what a vector loses in one beat, at most: what the weights lack, one tick in the mean, and less than 1 at each state
  abbrev pub vector_loss : ℕ → ℕ
  vector_loss order = 2 * lumped_events_of us + 2 * states_of us + missing_of order

  -- what the dwell of a beat lacks, at most
  abbrev pub dwell_loss : ℕ → ℕ
  dwell_loss order = vector_loss order + order * order

  -- the products of one tick, at most
  abbrev pub tick_products : ℕ
  tick_products = states_of us * (lumped_events_of us + 1)

  -- the products of one beat, at most: those of its ticks, and two at each state for each weight
  abbrev pub beat_products : ℕ → ℕ
  beat_products order = states_of us * (order * (lumped_events_of us + 1) + 2 * order + 1)
