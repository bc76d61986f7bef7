-- The records of a mission's phases, and watchers that are fed them.
use Rattle.std.specs.Prelude.{◌≡◌, ℕ, suc, ◌+◌, ◌≤◌, List, [], ◌∷◌, ◌++◌, length, map, take, drop, slice_index_or}
use Rattle.sil_model.specs.Budget.{pfd_width_of}
use Rattle.sil_model.specs.Calendar.{phases_of}
use Rattle.sil_model.specs.Figures.{no_phase, phase_mean_of, phase_end_of, Contains18}
use Rattle.sil_model.specs.LoopValue.{LoopValue}
use Rattle.sil_watch.specs.Watching.{WatcherValue, fed_of, AreFedInPart}
use Rattle.sil_watch.specs.declared.kind.WatchSet.{WatchSet}
use Rattle.sil_watch.specs.declared.record.PhaseRecord.{PhaseRecord}

-- the record of the phase p: both intervals hold for every order from this one on, and are no wider than that of PFDavg may be
pub record IsRecordOf (l : LoopValue) (order p : ℕ) (r : PhaseRecord) : Type 0 where
  pub index : r.index ≡ p + 1
  pub start : r.start ≡ (slice_index_or (phases_of l) p no_phase).start
  pub hours : r.hours ≡ (slice_index_or (phases_of l) p no_phase).hours
  pub mean : (N : ℕ) → order ≤ N → Contains18 r.mean.lo r.mean.hi (phase_mean_of N l p)
  pub at_end : (N : ℕ) → order ≤ N → Contains18 r.at_end.lo r.at_end.hi (phase_end_of N l p)
  pub mean_width : r.mean.hi ≤ r.mean.lo + pfd_width_of l order
  pub end_width : r.at_end.hi ≤ r.at_end.lo + pfd_width_of l order

-- the records of phases one after another, from the phase p on
abbrev pub AreRecordsFrom : LoopValue → ℕ → ℕ → List PhaseRecord → Type 0
AreRecordsFrom l order p [] = Unit {0}
AreRecordsFrom l order p (r ∷ rs) = IsRecordOf l order p r × AreRecordsFrom l order (suc p) rs

-- the watchers that are asked for took in the records of the first p phases, one of each, and the others none
pub record HasFed (l : LoopValue) (order p : ℕ) (asked : WatchSet) (before after : List WatcherValue) : Type 0 where
  pub records : List PhaseRecord
  pub number : length records ≡ p
  pub are : AreRecordsFrom l order 0 records
  pub fed : after ≡ map (fed_of asked records) before

-- out of memory on the way: they took in the records of some first phases, but of some of them the last ones may be missing
pub record HasFedInPart (l : LoopValue) (order : ℕ) (asked : WatchSet) (before after : List WatcherValue) : Type 0 where
  pub records : List PhaseRecord
  pub number : length records ≤ length (phases_of l)
  pub are : AreRecordsFrom l order 0 records
  pub fed : AreFedInPart asked records before after

-- they took in the record of the phase p
pub record HasFedPhase (l : LoopValue) (order p : ℕ) (asked : WatchSet) (before after : List WatcherValue) : Type 0 where
  pub rec : PhaseRecord
  pub is : IsRecordOf l order p rec
  pub fed : after ≡ map (fed_of asked (rec ∷ [])) before

-- the first `count` did
pub record HasFedPhaseInPart (l : LoopValue) (order p : ℕ) (asked : WatchSet) (before after : List WatcherValue) : Type 0 where
  pub rec : PhaseRecord
  pub is : IsRecordOf l order p rec
  pub count : ℕ
  pub fed : after ≡ map (fed_of asked (rec ∷ [])) (take count before) ++ drop count before
