-- The matrices of the beats of a subsystem with their room.
use Rattle.std.specs.Prelude.{◌≡◌, ℕ, ◌+◌, ◌^◌, ◌<◌, ◌≤◌, List, sum, vec_len, IsTrue}
use Rattle.sil_fraction.specs.Fraction.{◌*ℚ◌, ◌≤ℚ◌, whole}
use Rattle.sil_model.specs.Series.{Values, times}
use Rattle.sil_model.specs.Sizes.{states_of}
use Rattle.lumped_laws.specs.ValueLists.{beat_list}
use Rattle.vector_laws.specs.Vectors.{weigh}
use Rattle.product_chain.specs.Kept.{ChainValue}
use Rattle.uniformise.specs.Beat.{hours_of_beat, vector_loss}
use Rattle.vector_laws.specs.Matrix.{Matrix}
use Rattle.vector_laws.specs.Rows.{IsBelowOperator, EachRowAtMost, EachRowNear}
use Rattle.dense_power.specs.Powers.{end_lack_of}
use Rattle.subsystem_power.specs.declared.power.SubsystemPower.TheInside.{Inside}

-- what becomes of the whole at state i in a beat, at every order from this one on
pub record IsRow (c : ChainValue) (order i : ℕ) (row : List ℕ) : Type 0 where
  pub weighs : (N : ℕ) → order ≤ N → (f : Values ℕ) → weigh row f ≤ℚ whole (2 ^ 48) *ℚ beat_list c.of.subsystems N (hours_of_beat c) f i
  pub most : sum row ≤ 2 ^ 48
  pub least : 2 ^ 48 ≤ sum row + vector_loss c.of.subsystems order

-- the matrix of so many beats, whose rows lack less by the size than they may: as much as the next product rounds down
pub record IsSparePower (c : ChainValue) (order beats : ℕ) (m : Matrix) : Type 0 where
  pub size : m.size ≡ states_of c.of.subsystems
  pub below : (N : ℕ) → order ≤ N → IsBelowOperator m (times (beat_list c.of.subsystems N (hours_of_beat c)) beats)
  pub rows : EachRowAtMost m (2 ^ 48)
  pub near : EachRowNear m (2 ^ 48 + states_of c.of.subsystems) (end_lack_of (states_of c.of.subsystems) (vector_loss c.of.subsystems order) beats)

-- the matrices of one beat, of sixteen, and of so many
pub record ArePowers (c : ChainValue) (beats : ℕ) (beat sixteen power : Matrix) : Type 0 where
  pub of_one : IsSparePower c 16 1 beat
  pub of_sixteen : IsSparePower c 16 16 sixteen
  pub of_beats : IsSparePower c 16 beats power

-- all parts are of the loop of the subsystem, and the matrices are powers once a phase is begun
pub record HasParts (p : Inside) : Type 0 where
  pub alone_same : p.alone ≡ p.chain.of
  pub space_same : p.space ≡ p.chain.of
  pub work_size : p.work ≡ states_of p.chain.of.subsystems
  pub end_size : vec_len p.end ≡ states_of p.chain.of.subsystems
  pub dwell_size : vec_len p.dwell ≡ states_of p.chain.of.subsystems
  pub beat_size : p.beat.size ≡ states_of p.chain.of.subsystems
  pub sixteen_size : p.sixteen.size ≡ states_of p.chain.of.subsystems
  pub power_size : p.power.size ≡ states_of p.chain.of.subsystems
  pub product_size : p.product.size ≡ states_of p.chain.of.subsystems
  pub hours_same : p.hours ≡ p.chain.hours
  pub counted : IsTrue p.begun → 0 < p.count.number
  pub powers : 0 < p.count.number → ArePowers p.chain p.count.number p.beat p.sixteen p.power
