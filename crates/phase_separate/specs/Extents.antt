-- The sizes of the subsystems of a loop, as they are kept.
use Rattle.std.specs.Prelude.{◌≡◌, ◌+◌, ◌*◌, ◌^◌, ◌≤◌, List, [], ◌∷◌, length, sum_by}
use Rattle.sil_model.specs.Budget.{lumped_events_of, group_events, common_causes}
use Rattle.sil_model.specs.Sizes.{channel_states, states_of, most_states}
use Rattle.sil_model.specs.declared.parts.Subsystem.{Subsystem}
use Rattle.vector_laws.specs.Matrix.{most_rows}
use Rattle.separate_laws.specs.Subsystems.{states_in}
use Rattle.subsystem_power.specs.Powers.{begin_products}
use Rattle.phase_separate.specs.Subsystems.{matrix_loss}
use Rattle.phase_separate.specs.declared.extent.Size.{Size}
use Rattle.phase_separate.specs.declared.extent.Sums.{Sums}
use Rattle.phase_separate.specs.declared.extent.Extent.TheInside.{Inside}

-- of one subsystem
pub record IsSizeOf (u : Subsystem) (s : Size) : Type 0 where
  pub states : s.states ≡ states_in u
  pub events : s.events ≡ lumped_events_of (u ∷ [])
  pub some : 1 ≤ s.states
  pub few_events : s.events ≤ 8 * group_events + common_causes
  pub few : s.states ≤ channel_states ^ 8

-- sums over at most six subsystems are small
pub record AreSmall (s : Sums) : Type 0 where
  pub states : s.states ≤ 384
  pub cubes : s.cubes ≤ 1_572_864
  pub begin : s.begin ≤ 24_000_000
  pub lack : s.lack ≤ 1_800

-- one subsystem more
pub record IsAdded (before : Sums) (size : Size) (after : Sums) : Type 0 where
  pub states : after.states ≡ before.states + size.states
  pub cubes : after.cubes ≡ before.cubes + size.states ^ 3
  pub begin : after.begin ≡ before.begin + (size.states * (size.states * (16 * (size.events + 1) + 2 * 16 + 1)) + 4 * size.states ^ 3)
  pub lack : after.lack ≡ before.lack + (2 * size.events + 3 * size.states + 13)

-- over some subsystems
pub record AreSumsOf (us : List Subsystem) (s : Sums) : Type 0 where
  pub states : s.states ≡ sum_by states_in us
  pub cubes : s.cubes ≡ sum_by (λ u. states_in u ^ 3) us
  pub begin : s.begin ≡ sum_by (λ u. begin_products (u ∷ [])) us
  pub lack : s.lack ≡ matrix_loss us
  pub few_states : s.states ≤ most_rows * length us
  pub few_cubes : s.cubes ≤ 262_144 * length us
  pub few_to_begin : s.begin ≤ 4_000_000 * length us
  pub little : s.lack ≤ 300 * length us

pub record IsExtent (e : Inside) : Type 0 where
  pub states : e.states ≡ states_of e.of.value.subsystems
  pub events : e.events ≡ lumped_events_of e.of.value.subsystems
  pub subsystems : e.subsystems ≡ length e.of.value.subsystems
  pub sums : AreSumsOf e.of.value.subsystems e.sums
  pub few_states : e.states ≤ most_states
  pub few_events : e.events ≤ 1_000
  pub few : e.subsystems ≤ 6
