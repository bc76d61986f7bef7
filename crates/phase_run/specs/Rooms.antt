-- The rooms for the places of a chain: each has one for every count vector, and both chains are of one loop.
use Rattle.std.specs.Prelude.{◌≡◌, ◌≤◌, vec_len}
use Rattle.sil_model.specs.Budget.{lumped_events_of}
use Rattle.sil_model.specs.LoopValue.{LoopValue}
use Rattle.sil_model.specs.Sizes.{states_of}
use Rattle.phase_run.specs.declared.room.PartRoom.{PartRoom}
use Rattle.phase_run.specs.declared.places.LadderRoom.TheInside.{Inside}

pub record HasPartRoom (l : LoopValue) (r : PartRoom) : Type 0 where
  pub events : r.events ≡ lumped_events_of l.subsystems
  pub few_events : r.events ≤ 1_000
  pub reached : r.reached.chain.of ≡ l
  pub chosen : r.chosen.chain.of ≡ l
  pub blocks : r.blocks ≡ states_of l.subsystems
  pub v : vec_len r.v ≡ states_of l.subsystems
  pub dwell : vec_len r.dwell ≡ states_of l.subsystems

pub record HasLadderRoom (r : Inside) : Type 0 where
  pub part : HasPartRoom r.part.reached.chain.of r.part
  pub later : vec_len r.later ≡ states_of r.part.reached.chain.of.subsystems
