-- The rooms of the ways to pass a phase.
use Rattle.std.specs.Prelude.{◌≡◌, ℕ, ◌<◌, Option, Some, None}
use Rattle.sil_model.specs.Calendar.{beats_of}
use Rattle.sil_model.specs.LoopValue.{LoopValue, IsWithin}
use Rattle.sil_model.specs.Sizes.{states_of}
use Rattle.phase_powers.specs.Kept.{PowersValue, IsOfNoOther}
use Rattle.phase_way.specs.Choice.{IsChoice}
use Rattle.phase_way.specs.Ways.{most_powered_states}
use Rattle.phase_way.specs.declared.choice.Choice.{Choice}
use Rattle.phase_way.specs.declared.rooms.Rooms.{Rooms}

-- rooms as contracts see them: of which loop they are, and the order of the series
pub record RoomsValue : Type 0 where
  pub of : LoopValue
  pub order : ℕ

-- room for powers of the loop, where it has few states
abbrev pub HavePowers : Choice → Option PowersValue → Type 0
HavePowers c None = most_powered_states < c.states
HavePowers c (Some p) = (p.size ≡ c.states) × IsOfNoOther p.of c.of.value

-- room for its subsystems, where they have an extent
abbrev pub HaveSubsystems : LoopValue → Option LoopValue → Option LoopValue → Type 0
HaveSubsystems l None room = Unit {0}
HaveSubsystems l (Some e) None = ⊥
HaveSubsystems l (Some e) (Some r) = r ≡ l

-- all are of one loop, and the chain is timed for a phase of `hours`
pub record AreRooms (r : Rooms) : Type 0 where
  pub choice : IsChoice r.choice
  pub of : r.choice.of.value ≡ r.space
  pub order : r.choice.order ≡ r.weights
  pub hours : IsWithin 1 350_400 r.hours
  pub chain : r.chain ≡ record { of = r.space; hours = r.hours; beats = beats_of r.space.subsystems r.hours }
  pub work : r.work ≡ states_of r.space.subsystems
  pub ladder : r.ladder ≡ r.space
  pub powers : HavePowers r.choice r.powers
  pub subsystems : HaveSubsystems r.space r.choice.extent r.subsystems
