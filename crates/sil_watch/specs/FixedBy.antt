-- The lines of watchers fix the numbers that they tell.
use Rattle.std.specs.Prelude.{◌≡◌, ℕ, ◌<◌, ◌^◌, List, ◌++◌, length, All}
use Rattle.sil_watch.specs.Lines.{line_of_record, text_of_lines}
use Rattle.sil_watch.specs.Occupancy.{hours_lines}
use Rattle.sil_watch.specs.Peak.{end_of, peak_lines}
use Rattle.sil_watch.specs.Records.{numbers_of}
use Rattle.sil_watch.specs.declared.record.PhaseRecord.{PhaseRecord}

-- numbers of at most 64 digits, as many as are written
pub record IsWritable (r : PhaseRecord) : Type 0 where
  pub index : r.index < 10 ^ 64
  pub start : r.start < 10 ^ 64
  pub hours : r.hours < 10 ^ 64

-- two texts that are equal and begin with the lines of records begin with the same numbers, and go on alike
abbrev pub LinesFixRecords : Type 0
LinesFixRecords = (q r : PhaseRecord) (rest_q rest_r : List ℕ) → IsWritable q → IsWritable r
    → line_of_record q ++ rest_q ≡ line_of_record r ++ rest_r → (numbers_of q ≡ numbers_of r) × (rest_q ≡ rest_r)

-- the same of the lines of peaks, for what they keep
abbrev pub LinesFixPeaks : Type 0
LinesFixPeaks = (q r : PhaseRecord) (rest_q rest_r : List ℕ) → IsWritable q → IsWritable r
    → text_of_lines (peak_lines (end_of q)) ++ rest_q ≡ text_of_lines (peak_lines (end_of r)) ++ rest_r → (end_of q ≡ end_of r) × (rest_q ≡ rest_r)

-- seven numbers of hours, each of at most 64 digits
pub record AreWritableHours (hours : List ℕ) : Type 0 where
  pub seven : length hours ≡ 7
  pub small : All (λ h. h < 10 ^ 64) hours

-- and of the lines of occupancies, for their hours
abbrev pub LinesFixHours : Type 0
LinesFixHours = (g h : List ℕ) (rest_g rest_h : List ℕ) → AreWritableHours g → AreWritableHours h
    → text_of_lines (hours_lines g) ++ rest_g ≡ text_of_lines (hours_lines h) ++ rest_h → (g ≡ h) × (rest_g ≡ rest_h)
