-- A phase that is passed.
use Rattle.std.specs.Prelude.{ℕ, ◌*◌, List}
use Rattle.sil_model.specs.Budget.{beat_loss_of}
use Rattle.sil_model.specs.Calendar.{beats_of}
use Rattle.sil_model.specs.Sizes.{states_of}
use Rattle.sil_model.specs.declared.parts.Subsystem.{Subsystem}
use Rattle.mission_laws.specs.Losses.{LosesInPhase}
use Rattle.mission_laws.specs.UnderWay.{PassesPhase}
use Rattle.mission_laws.specs.PhaseLaws.{PassesBeats}

-- a phase of t hours: the vector goes from v to v', with this mean over the phase, and the dwell grows; at every order from this
-- one on each is no more than expected, and little is lost
pub record IsPassed (us : List Subsystem) (order t : ℕ) (v mean v' dwell dwell' : List ℕ) : Type 0 where
  pub passes : PassesPhase us order t (beats_of us t) v v' dwell dwell'
  pub loses : LosesInPhase (beats_of us t * beat_loss_of us order) t (states_of us) v v' dwell dwell'
  pub beats : PassesBeats us order t v mean v'
