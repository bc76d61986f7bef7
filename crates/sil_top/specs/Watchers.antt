-- What the watchers of the program tell of a loop: they took in one list of true records, one of each phase.
use Rattle.std.specs.Prelude.{◌≡◌, ℕ, ◌^◌, ◌<◌, ◌≤◌, Bool, true, List, [], ◌++◌, length, map, sum_by, slice_index_or, Some, None, if◌then◌else◌}
use Rattle.std.specs.List.{IsFirstMaxByKey}
use Rattle.sil_fraction.specs.Fraction.{◌*ℚ◌, ◌≤ℚ◌, whole}
use Rattle.sil_model.specs.LoopValue.{LoopValue, IsValid}
use Rattle.sil_model.specs.Calendar.{phases_of}
use Rattle.sil_model.specs.Figures.{IsPhase, phase_end_of}
use Rattle.sil_watch.specs.Kinds.{holds}
use Rattle.sil_watch.specs.Lines.{line_of_record, text_of_lines}
use Rattle.sil_watch.specs.Occupancy.{bands, hours_in, hours_lines, no_hours, occupancy_value}
use Rattle.sil_watch.specs.Peak.{end_of, peak_lines, peak_value}
use Rattle.sil_watch.specs.Series.{series_value}
use Rattle.sil_watch.specs.Watching.{WatcherValue}
use Rattle.sil_watch.specs.declared.kind.WatchSet.{WatchSet}
use Rattle.sil_watch.specs.declared.kind.WatcherKind.TheVariants.{Series, Peak, Occupancy}
use Rattle.sil_watch.specs.declared.record.PhaseRecord.{PhaseRecord}
use Rattle.loop_value.specs.Records.{HasFed, IsRecordOf, AreRecordsFrom}
use Rattle.sil_top.specs.Program.{program_watchers}
use Rattle.sil_top.specs.Report.{IsToldOfPhases}

-- The record of the peak: of these records, one of each phase, it is the first whose upper end is the greatest, and at every order
-- from this one on the chance of being down at the end of any phase is at most its upper end.
pub record IsPeakOf (l : LoopValue) (order : ℕ) (records : List PhaseRecord) (r : PhaseRecord) : Type 0 where
  pub phase : ℕ
  pub within : IsPhase l phase
  pub at : slice_index_or records phase r ≡ r
  pub is : IsRecordOf l order phase r
  pub first : IsFirstMaxByKey (λ (s : PhaseRecord). s.at_end.hi) records (length records) phase
  pub most : (p : ℕ) → IsPhase l p → (N : ℕ) → order ≤ N → phase_end_of N l p *ℚ whole (10 ^ 18) ≤ℚ whole r.at_end.hi

-- The hours in each band: each phase counts where the interval of its mean lies, and together they are the mission.
pub record AreHoursOf (l : LoopValue) (records : List PhaseRecord) (hours : List ℕ) : Type 0 where
  pub each : hours ≡ map (hours_in records) bands
  pub all : sum_by (hours_in records) bands ≡ l.mission

-- the lines, if they are asked for
abbrev pub lines_if : Bool → List (List ℕ) → List ℕ
lines_if asked lines = if asked then text_of_lines lines else []

-- The text has the lines of the watchers that are asked for, of one true record of each phase, in order of the phases: a line for
-- each record, then the line of the peak, then a line for each band. The loop of a file, and one that is drawn, is valid.
pub record AreLinesOf (l : LoopValue) (asked : WatchSet) (text : List ℕ) : Type 0 where
  pub records : List PhaseRecord
  pub number : length records ≡ length (phases_of l)
  pub are : AreRecordsFrom l l.order 0 records
  pub peak : PhaseRecord
  pub is_peak : IsPeakOf l l.order records peak
  pub hours : List ℕ
  pub are_hours : IsValid l → AreHoursOf l records hours
  pub printed : text ≡ lines_if (holds asked Series) (map line_of_record records)
      ++ (lines_if (holds asked Peak) (peak_lines (end_of peak)) ++ lines_if (holds asked Occupancy) (hours_lines hours))

-- That is what the program's watchers tell. And wherever they stand in the list that `value` is given: a series without records
-- that is asked for then holds all of them, a peak that kept none the record of the peak, and an occupancy without hours the hours
-- in each band.
pub record WatchersTell : Type 0 where
  pub told : (l : LoopValue) (asked : WatchSet) (text : List ℕ) → IsToldOfPhases l asked program_watchers text → AreLinesOf l asked text
  pub series : (l : LoopValue) (order : ℕ) (asked : WatchSet) (before after : List WatcherValue) (i : ℕ) (d : WatcherValue)
      (f : HasFed l order (length (phases_of l)) asked before after) → i < length before → slice_index_or before i d ≡ series_value []
      → holds asked Series ≡ true → slice_index_or after i d ≡ series_value f.records
  pub peak : (l : LoopValue) (order : ℕ) (asked : WatchSet) (before after : List WatcherValue) (i : ℕ) (d : WatcherValue)
      (f : HasFed l order (length (phases_of l)) asked before after) → i < length before → slice_index_or before i d ≡ peak_value None
      → holds asked Peak ≡ true → (r : PhaseRecord) × (slice_index_or after i d ≡ peak_value (Some r)) × IsPeakOf l order f.records r
  pub occupancy : (l : LoopValue) (order : ℕ) (asked : WatchSet) (before after : List WatcherValue) (i : ℕ) (d : WatcherValue)
      (f : HasFed l order (length (phases_of l)) asked before after) → i < length before → slice_index_or before i d ≡ occupancy_value no_hours
      → holds asked Occupancy ≡ true → IsValid l
      → (hours : List ℕ) × (slice_index_or after i d ≡ occupancy_value hours) × AreHoursOf l f.records hours
