-- The matrices of the beats of one subsystem.
use Rattle.std.specs.Prelude.{◌≡◌, ℕ, ◌+◌, ◌*◌, ◌^◌, ◌≤◌, List, [], ◌∷◌}
use Rattle.sil_model.specs.Series.{times}
use Rattle.sil_model.specs.Sizes.{states_of}
use Rattle.sil_model.specs.LoopValue.{LoopValue}
use Rattle.sil_model.specs.declared.parts.Subsystem.{Subsystem}
use Rattle.lumped_laws.specs.ValueLists.{beat_list}
use Rattle.product_chain.specs.Kept.{ChainValue}
use Rattle.uniformise.specs.Beat.{hours_of_beat, vector_loss, beat_products}
use Rattle.vector_laws.specs.Matrix.{Matrix}
use Rattle.vector_laws.specs.Rows.{IsBelowOperator, EachRowAtMost, EachRowNear}
use Rattle.dense_power.specs.Powers.{end_lack_of}

-- the beats of a subsystem as contracts see them: its chain as a loop for itself, and of how many beats the power is, where it
-- was begun
pub record PowerValue : Type 0 where
  pub chain : ChainValue
  pub power : ℕ

-- the loop of one subsystem, with the mission and the order of the whole
abbrev pub alone_of : LoopValue → Subsystem → LoopValue
alone_of l u = record l { subsystems = u ∷ [] }

-- the matrix of so many beats of a chain: its rows are below what is expected after them, at every order from this one on, and
-- lack little of the whole
pub record IsPowerOf (c : ChainValue) (order beats : ℕ) (m : Matrix) : Type 0 where
  pub size : m.size ≡ states_of c.of.subsystems
  pub below : (N : ℕ) → order ≤ N → IsBelowOperator m (times (beat_list c.of.subsystems N (hours_of_beat c)) beats)
  pub rows : EachRowAtMost m (2 ^ 48)
  pub near : EachRowNear m (2 ^ 48) (end_lack_of (states_of c.of.subsystems) (vector_loss c.of.subsystems order) beats)

-- the products that it takes to begin a phase, at most: one beat from each state, and four doublings
abbrev pub begin_products : List Subsystem → ℕ
begin_products us = states_of us * beat_products us 16 + 4 * states_of us ^ 3
