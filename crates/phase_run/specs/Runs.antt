-- What every way of running a phase promises: of the vector at its end, of its mean over the phase, and of hours times that
-- mean, which a dwell grows by.
use Rattle.std.specs.Prelude.{ℕ, ◌+◌, ◌*◌, ◌^◌, ◌<◌, ◌≤◌, List, length, sum, slice_index}
use Rattle.sil_fraction.specs.Fraction.{◌+ℚ◌, ◌*ℚ◌, ◌≤ℚ◌, whole, ratio}
use Rattle.sil_model.specs.Budget.{beat_loss_of}
use Rattle.sil_model.specs.Series.{Values}
use Rattle.sil_model.specs.Sizes.{states_of}
use Rattle.sil_model.specs.declared.parts.Subsystem.{Subsystem}
use Rattle.lumped_laws.specs.ValueLists.{phase_list, phase_mean_list}
use Rattle.vector_laws.specs.Vectors.{weigh}

-- of a vector v, in so many hours and beats, by weights of this order
module _ (us : List Subsystem) (order hours beats : ℕ) (v end mean old new : List ℕ) where
  -- by every value list, at every order from this one on, none weighs more than is expected
  pub record Encloses : Type 0 where
    pub ends : (N : ℕ) → order ≤ N → (f : Values ℕ) → weigh end f ≤ℚ weigh v (phase_list us N (ratio hours beats) beats f)
    pub means : (N : ℕ) → order ≤ N → (f : Values ℕ) → weigh mean f ≤ℚ weigh v (phase_mean_list us N (ratio hours beats) beats f)
    pub dwells : (N : ℕ) → order ≤ N → (f : Values ℕ)
        → weigh new f ≤ℚ weigh old f +ℚ whole hours *ℚ weigh v (phase_mean_list us N (ratio hours beats) beats f)

  -- no mass comes in; no number of the dwell shrinks, and none grows by more than the hours
  pub record KeepsAndGrows : Type 0 where
    pub ends : sum end ≤ sum v
    pub means : sum mean ≤ sum v
    pub dwells : sum new ≤ sum old + hours * sum v
    pub grows : (k : ℕ) → k < length old → (slice_index old k ≤ slice_index new k) × (slice_index new k ≤ slice_index old k + hours * 2 ^ 48)

  -- little is lost
  pub record Loses : Type 0 where
    pub ends : sum v ≤ sum end + beats * beat_loss_of us order
    pub means : sum v ≤ sum mean + beats * beat_loss_of us order + states_of us
    pub dwells : sum old + hours * sum v ≤ sum new + hours * (beats * beat_loss_of us order) + states_of us

  pub record RunsPhase : Type 0 where
    pub encloses : Encloses
    pub keeps : KeepsAndGrows
    pub loses : Loses
