-- The room for the subsystems of a loop.
use Rattle.std.specs.Prelude.{◌≡◌, ℕ, vec_len, map}
use Rattle.sil_model.specs.Sizes.{states_of}
use Rattle.subsystem_power.specs.Powers.{alone_of}
use Rattle.phase_separate.specs.Subsystems.{loops_of}
use Rattle.phase_separate.specs.declared.along.Buffers.{Buffers}
use Rattle.phase_separate.specs.declared.room.SeparateRoom.TheInside.{Inside}

-- two vectors of one size
pub record HaveSize (n : ℕ) (b : Buffers) : Type 0 where
  pub now : vec_len b.now ≡ n
  pub next : vec_len b.next ≡ n

pub record HasRoom (r : Inside) : Type 0 where
  pub weights : r.weights ≡ 16
  pub subsystems : loops_of r.subsystems.items ≡ map (alone_of r.of.value) r.of.value.subsystems
  pub buffers : HaveSize (states_of r.of.value.subsystems) r.buffers
  pub visited : vec_len r.visited ≡ states_of r.of.value.subsystems
  pub later : vec_len r.later ≡ states_of r.of.value.subsystems
