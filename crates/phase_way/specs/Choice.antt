-- What the choice of a way hangs on, and what each way needs.
use Rattle.std.specs.Prelude.{◌≡◌, ℕ, ◌≤◌, Option, Some, None}
use Rattle.sil_model.specs.Budget.{lumped_events_of}
use Rattle.sil_model.specs.LoopValue.{LoopValue}
use Rattle.sil_model.specs.Sizes.{states_of, most_states}
use Rattle.phase_separate.specs.Losses.{LoseLittle}
use Rattle.phase_separate.specs.Subsystems.{HaveFewStates}
use Rattle.phase_way.specs.Ways.{most_powered_states}
use Rattle.phase_way.specs.declared.choice.Choice.{Choice}
use Rattle.phase_way.specs.declared.choice.Way.{Way}
use Rattle.phase_way.specs.declared.choice.Way.TheVariants.{Blocks, Powers, Subsystems}

-- the extent of the loop, if any; then each subsystem has few count vectors
abbrev pub IsExtentOf : LoopValue → Option LoopValue → Type 0
IsExtentOf l None = Unit {0}
IsExtentOf l (Some e) = (e ≡ l) × HaveFewStates l.subsystems

abbrev pub HasSome : Option LoopValue → Type 0
HasSome None = ⊥
HasSome (Some e) = Unit {0}

pub record IsChoice (c : Choice) : Type 0 where
  pub states : c.states ≡ states_of c.of.value.subsystems
  pub few : c.states ≤ most_states
  pub events : c.events ≡ lumped_events_of c.of.value.subsystems
  pub few_events : c.events ≤ 1_000
  pub least : 16 ≤ c.order
  pub greatest : c.order ≤ 40
  pub extent : IsExtentOf c.of.value c.extent

-- a phase of so many beats has what a way needs
abbrev pub MayPass : Choice → ℕ → Way → Type 0
MayPass c beats Blocks = Unit {0}
MayPass c beats Powers = c.states ≤ most_powered_states
MayPass c beats Subsystems = HasSome c.extent × LoseLittle c.of.value.subsystems beats
