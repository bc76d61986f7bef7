-- What makes a report true.
use Rattle.std.specs.Prelude.{◌≡◌, ℕ, ◌+◌, ◌/◌, ◌<◌, ◌≤◌, ◌^◌, List, ◌++◌, length, None}
use Rattle.sil_model.specs.LoopValue.{LoopValue}
use Rattle.sil_model.specs.Budget.{pfd_width_of, pfh_width_of}
use Rattle.sil_model.specs.Calendar.{phases_of}
use Rattle.sil_model.specs.Sizes.{states_of, all_beats_of, first_limit_of}
use Rattle.sil_model.specs.Figures.{pfd_of, pfh_of, Contains18}
use Rattle.sil_model.specs.Bands.{IsBandOf, pfd_edge, pfh_edge}
use Rattle.limit_laws.specs.Exact.{Figure, ContainsExact18}
use Rattle.limit_laws.specs.Exact.Figure.{Pfd, Pfh}
use Rattle.sil_report.specs.FixedBy.{Interval, Counts}
use Rattle.sil_report.specs.Reports.{report_lines}
use Rattle.sil_watch.specs.Lines.{lines_of_all}
use Rattle.sil_watch.specs.Watching.{WatcherValue}
use Rattle.sil_watch.specs.declared.kind.WatchSet.{WatchSet}
use Rattle.loop_value.specs.Records.{HasFed}

-- the counts of a loop, at its order of the series
abbrev pub counts_of : LoopValue → Counts
counts_of l = record {
  mission = l.mission;
  phases = length (phases_of l);
  states = states_of l.subsystems;
  beats = all_beats_of l;
  order = l.order;
}

-- two ends and a band tell the truth of the exact figure of a loop, the real number that those of growing orders approach: it
-- lies between the ends; they are no further apart than `width`; the band holds both, and it is undecided exactly where none does
pub record IsTrueOf (l : LoopValue) (f : Figure) (edge width : ℕ) (i : Interval) : Type 0 where
  pub ordered : i.lo ≤ i.hi
  pub printable : i.hi < 10 ^ 19
  pub exact : ContainsExact18 f l i.lo i.hi
  pub narrow : i.hi ≤ i.lo + width
  pub is_band : IsBandOf edge i.lo i.hi i.band

-- the text is the report of a loop within all limits, with the interval of PFDavg and that of PFH, and of no others, since one
-- text has one pair of each: at every order from the loop's on the figure lies between the ends, and so does the exact one; the
-- interval of PFDavg is no wider than 1/32,000
pub record IsTrueReport (l : LoopValue) (text : List ℕ) : Type 0 where
  pub within : first_limit_of l l.order ≡ None
  pub pfd : Interval
  pub pfh : Interval
  pub printed : text ≡ report_lines (counts_of l) pfd pfh
  pub encloses_pfd : (N : ℕ) → l.order ≤ N → Contains18 pfd.lo pfd.hi (pfd_of N l)
  pub encloses_pfh : (N : ℕ) → l.order ≤ N → Contains18 pfh.lo pfh.hi (pfh_of N l)
  pub true_pfd : IsTrueOf l Pfd pfd_edge (pfd_width_of l l.order) pfd
  pub true_pfh : IsTrueOf l Pfh pfh_edge (pfh_width_of l l.order) pfh
  pub sharp : pfd.hi ≤ pfd.lo + 10 ^ 18 / 32_000

-- the text has the lines of the watchers that are asked for, after they took in one true record of each phase, in order of the
-- phases; it is empty where none is asked for
pub record IsToldOfPhases (l : LoopValue) (asked : WatchSet) (before : List WatcherValue) (text : List ℕ) : Type 0 where
  pub after : List WatcherValue
  pub fed : HasFed l l.order (length (phases_of l)) asked before after
  pub printed : text ≡ lines_of_all asked after

-- one report of a loop has one interval of each figure, and where it ends is told by its text, whatever is written behind it
pub record ReportsFixFigures : Type 0 where
  pub pfd : (l : LoopValue) (s t more_s more_t : List ℕ) (a : IsTrueReport l s) (b : IsTrueReport l t) → s ++ more_s ≡ t ++ more_t → a.pfd ≡ b.pfd
  pub pfh : (l : LoopValue) (s t more_s more_t : List ℕ) (a : IsTrueReport l s) (b : IsTrueReport l t) → s ++ more_s ≡ t ++ more_t → a.pfh ≡ b.pfh
  pub ends : (l : LoopValue) (s t more_s more_t : List ℕ) (a : IsTrueReport l s) (b : IsTrueReport l t) → s ++ more_s ≡ t ++ more_t
      → (s ≡ t) × (more_s ≡ more_t)
