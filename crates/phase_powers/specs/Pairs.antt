-- The end matrix and the dwell matrix of a beat and of a phase of a chain, at every order from this one on.
use Rattle.std.specs.Prelude.{◌≡◌, ℕ, ◌+◌, ◌*◌, ◌^◌, ◌≤◌, List, sum}
use Rattle.sil_fraction.specs.Fraction.{◌*ℚ◌, ◌≤ℚ◌, whole}
use Rattle.sil_model.specs.Series.{Values, times}
use Rattle.sil_model.specs.Sizes.{states_of}
use Rattle.model_laws.specs.Polynomial.{means_of}
use Rattle.lumped_laws.specs.ValueLists.{beat_list, mean_list}
use Rattle.vector_laws.specs.Vectors.{weigh}
use Rattle.product_chain.specs.Kept.{ChainValue}
use Rattle.uniformise.specs.Beat.{hours_of_beat, vector_loss, dwell_loss}
use Rattle.vector_laws.specs.Matrix.{Matrix}
use Rattle.vector_laws.specs.Rows.{IsBelowOperator, EachRowAtMost, EachRowNear}
use Rattle.dense_power.specs.Powers.{end_lack_of, dwell_lack_of}

module _ (c : ChainValue) (order : ℕ) where
  -- what is expected after a beat, and in it
  abbrev pub beat_at : ℕ → Values ℕ → Values ℕ
  beat_at N = beat_list c.of.subsystems N (hours_of_beat c)

  abbrev pub mean_at : ℕ → Values ℕ → Values ℕ
  mean_at N = mean_list c.of.subsystems N (hours_of_beat c)

  -- the whole of state i after a beat, and what it dwells in it
  pub record IsRowPair (i : ℕ) (end dwell : List ℕ) : Type 0 where
    pub end_weighs : (N : ℕ) → order ≤ N → (f : Values ℕ) → weigh end f ≤ℚ whole (2 ^ 48) *ℚ beat_at N f i
    pub dwell_weighs : (N : ℕ) → order ≤ N → (f : Values ℕ) → weigh dwell f ≤ℚ whole (2 ^ 48) *ℚ mean_at N f i
    pub end_most : sum end ≤ 2 ^ 48
    pub dwell_most : sum dwell ≤ 2 ^ 48
    pub end_least : 2 ^ 48 ≤ sum end + vector_loss c.of.subsystems order
    pub dwell_least : 2 ^ 48 ≤ sum dwell + dwell_loss c.of.subsystems order

  pub record IsBeatPair (end dwell : Matrix) : Type 0 where
    pub end_size : end.size ≡ states_of c.of.subsystems
    pub dwell_size : dwell.size ≡ states_of c.of.subsystems
    pub ends : (N : ℕ) → order ≤ N → IsBelowOperator end (beat_at N)
    pub dwells : (N : ℕ) → order ≤ N → IsBelowOperator dwell (mean_at N)
    pub end_rows : EachRowAtMost end (2 ^ 48)
    pub dwell_rows : EachRowAtMost dwell (2 ^ 48)
    pub end_near : EachRowNear end (2 ^ 48) (vector_loss c.of.subsystems order)
    pub dwell_near : EachRowNear dwell (2 ^ 48) (dwell_loss c.of.subsystems order)

  -- all beats of the phase
  pub record IsPhasePair (end dwell : Matrix) : Type 0 where
    pub end_size : end.size ≡ states_of c.of.subsystems
    pub dwell_size : dwell.size ≡ states_of c.of.subsystems
    pub ends : (N : ℕ) → order ≤ N → IsBelowOperator end (times (beat_at N) c.beats)
    pub dwells : (N : ℕ) → order ≤ N → IsBelowOperator dwell (means_of (beat_at N) (mean_at N) c.beats)
    pub end_rows : EachRowAtMost end (2 ^ 48)
    pub dwell_rows : EachRowAtMost dwell (c.beats * 2 ^ 48)
    pub end_near : EachRowNear end (2 ^ 48) (end_lack_of (states_of c.of.subsystems) (vector_loss c.of.subsystems order) c.beats)
    pub dwell_near : EachRowNear dwell (c.beats * 2 ^ 48)
        (dwell_lack_of (states_of c.of.subsystems) (vector_loss c.of.subsystems order) (dwell_loss c.of.subsystems order) c.beats)
