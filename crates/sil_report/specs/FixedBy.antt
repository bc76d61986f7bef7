-- The lines of a report fix the numbers that they tell.
use Rattle.std.specs.Prelude.{◌≡◌, ℕ, ◌<◌, ◌^◌, List, ◌++◌}
use Rattle.sil_model.specs.declared.answers.Band.{Band}
use Rattle.sil_report.specs.Texts.{counts_text}
use Rattle.sil_report.specs.Intervals.{interval_line}

-- what a line of an interval tells: two ends in units of 10^-18, and a band
pub record Interval : Type 0 where
  pub lo : ℕ
  pub hi : ℕ
  pub band : Band

abbrev pub line_of_interval : List ℕ → Interval → List ℕ
line_of_interval name i = interval_line name i.lo i.hi i.band

-- what the first five lines tell
pub record Counts : Type 0 where
  pub mission : ℕ
  pub phases : ℕ
  pub states : ℕ
  pub beats : ℕ
  pub order : ℕ

abbrev pub lines_of_counts : Counts → List ℕ
lines_of_counts c = counts_text c.mission c.phases c.states c.beats c.order

-- numbers of at most 64 digits, as many as are written
abbrev pub IsWritable : ℕ → Type 0
IsWritable n = n < 10 ^ 64

pub record AreWritableCounts (c : Counts) : Type 0 where
  pub mission : IsWritable c.mission
  pub phases : IsWritable c.phases
  pub states : IsWritable c.states
  pub beats : IsWritable c.beats
  pub order : IsWritable c.order

-- an end has at most 64 digits before its point
pub record AreWritableEnds (i : Interval) : Type 0 where
  pub lo : i.lo < 10 ^ 82
  pub hi : i.hi < 10 ^ 82

-- Two texts that are equal and begin with such lines tell the same, and go on alike. So a report of any number of lines is
-- read back line by line.
pub record LinesFixNumbers : Type 0 where
  pub interval : (name : List ℕ) (i j : Interval) (rest_i rest_j : List ℕ) → AreWritableEnds i → AreWritableEnds j
      → line_of_interval name i ++ rest_i ≡ line_of_interval name j ++ rest_j → (i ≡ j) × (rest_i ≡ rest_j)
  pub counts : (c d : Counts) (rest_c rest_d : List ℕ) → AreWritableCounts c → AreWritableCounts d
      → lines_of_counts c ++ rest_c ≡ lines_of_counts d ++ rest_d → (c ≡ d) × (rest_c ≡ rest_d)
