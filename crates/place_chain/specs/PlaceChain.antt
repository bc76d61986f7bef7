-- The part of a chain at some places alone, and vectors and value lists over the places.
use Rattle.std.specs.Prelude.{◌≡◌, ℕ, Bool, true, ◌+◌, ◌*◌, ◌^◌, ◌<◌, ◌≤◌, List, length, slice_index, if◌then◌else◌}
use Rattle.sil_fraction.specs.Fraction.{◌*ℚ◌, ratio}
use Rattle.sil_fraction.specs.Sum.{total_below, sum_below}
use Rattle.sil_model.specs.Budget.{lumped_events_of}
use Rattle.sil_model.specs.LoopValue.{IsValid}
use Rattle.sil_model.specs.Sizes.{states_of, most_states}
use Rattle.sil_model.specs.Series.{Values}
use Rattle.sil_model.specs.declared.parts.Subsystem.{Subsystem}
use Rattle.lumped_laws.specs.ValueLists.{tick_list}
use Rattle.product_chain.specs.declared.column.Entry.{Entry}
use Rattle.product_chain.specs.Columns.{AreWeighted, part, given}
use Rattle.product_chain.specs.Kept.{ChainValue, IsTimed}
use Rattle.product_chain.specs.Weights.{one_at, weight_of}

-- a chain with some places, and how many entries lead between them; whether they are closed, so that no weight leads elsewhere
pub record PlaceChainValue : Type 0 where
  pub chain : ChainValue
  pub places : List ℕ
  pub entries : ℕ
  pub closed : Bool

module _ (places : List ℕ) where
  -- a number that is none of the places
  abbrev pub IsElsewhere : ℕ → Type 0
  IsElsewhere i = (k : ℕ) → k < length places → slice_index places k ≡ i → ⊥

  -- a vector that holds nothing elsewhere
  abbrev pub IsWithin : List ℕ → Type 0
  IsWithin v = (i : ℕ) → i < length v → IsElsewhere i → slice_index v i ≡ 0

  -- the places have every number of which a vector holds more than this
  abbrev pub HaveAllAbove : ℕ → List ℕ → Type 0
  HaveAllAbove least v = (i : ℕ) → i < length v → least < slice_index v i → IsElsewhere i → ⊥

  -- the numbers of a vector at the places, one after another
  pub record IsGatheredFrom (v small : List ℕ) : Type 0 where
    pub number : length small ≡ length places
    pub each : (k : ℕ) → k < length places → slice_index small k ≡ slice_index v (slice_index places k)

  -- the values at the places
  abbrev pub at_places : Values ℕ → Values ℕ
  at_places f k = f (slice_index places k)

  -- the values of all numbers that are these at the places, and 0 elsewhere
  unfoldable pub spread : Values ℕ → Values ℕ
  spread g i = total_below (length places) (λ k. g k *ℚ one_at (slice_index places k) i)

  -- a step of all values, read and written at the places alone
  unfoldable pub step_at : (Values ℕ → Values ℕ) → Values ℕ → Values ℕ
  step_at T g = at_places (T (spread g))

-- numbers of count vectors, in their order
pub record AreInOrder (us : List Subsystem) (places : List ℕ) : Type 0 where
  pub rising : (k l : ℕ) → k < l → l < length places → slice_index places k < slice_index places l
  pub below : (k : ℕ) → k < length places → slice_index places k < states_of us
  pub few : length places ≤ states_of us

-- no weight leads from one of them elsewhere
abbrev pub AreClosed : List Subsystem → ℕ → ℕ → List ℕ → Type 0
AreClosed us hours beats places = (k j : ℕ) → k < length places → j < states_of us → IsElsewhere places j → weight_of us hours beats (slice_index places k) j ≡ 0

-- no place is there without need: what the numbers of the vector have and weights pass on, all places have
abbrev pub AreNoMore : List Subsystem → ℕ → ℕ → List ℕ → List ℕ → Type 0
AreNoMore us hours beats v places = (P : ℕ → Bool) → ((i : ℕ) → i < length v → (slice_index v i ≡ 0 → ⊥) → P i ≡ true)
    → ((i j : ℕ) → i < states_of us → j < states_of us → (weight_of us hours beats i j ≡ 0 → ⊥) → P i ≡ true → P j ≡ true)
    → (k : ℕ) → k < length places → P (slice_index places k) ≡ true

-- columns over the places, which hold the weights between them
pub record AreBetween (us : List Subsystem) (hours beats : ℕ) (places starts : List ℕ) (entries : List Entry) : Type 0 where
  pub columns : AreWeighted (length places) (length places) starts entries
  pub weights : (v : ℕ → ℕ) (k : ℕ) → k < length places
      → given v (part starts entries k)
      ≡ sum_below (length places) (λ l. v l * weight_of us hours beats (slice_index places l) (slice_index places k))
  pub number : length entries ≤ states_of us * (lumped_events_of us + 1)

-- all of it, with its room
pub record IsPlaceChain (c : ChainValue) (places : List ℕ) (closed : Bool) (starts : List ℕ) (entries : List Entry) : Type 0 where
  pub valid : IsValid c.of
  pub few : states_of c.of.subsystems ≤ most_states
  pub timed : IsTimed c.of.subsystems c.hours c.beats
  pub placed : AreInOrder c.of.subsystems places
  pub shut : closed ≡ true → AreClosed c.of.subsystems c.hours c.beats places
  pub between : AreBetween c.of.subsystems c.hours c.beats places starts entries

pub record HasRoom (c : ChainValue) (masses marks ranks places starts entries : ℕ) : Type 0 where
  pub masses_room : masses ≡ states_of c.of.subsystems
  pub marks_room : marks ≡ states_of c.of.subsystems
  pub ranks_room : ranks ≡ states_of c.of.subsystems
  pub places_room : states_of c.of.subsystems ≤ places
  pub starts_room : states_of c.of.subsystems + 1 ≤ starts
  pub entries_room : states_of c.of.subsystems * (lumped_events_of c.of.subsystems + 1) ≤ entries

-- what a tick over places loses, at most: all, where weights may lead elsewhere
abbrev pub tick_loss_of : PlaceChainValue → ℕ
tick_loss_of r = if r.closed then lumped_events_of r.chain.of.subsystems + length r.places else 2 ^ 48

-- the step of values that a tick of the places stays below
abbrev pub step_of_places : PlaceChainValue → Values ℕ → Values ℕ
step_of_places r = step_at r.places (tick_list r.chain.of.subsystems (ratio r.chain.hours r.chain.beats))
