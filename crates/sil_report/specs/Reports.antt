-- The report of a loop's figures.
use Rattle.std.specs.Prelude.{◌≡◌, ℕ, List, ◌++◌, codes}
use Rattle.sil_model.specs.Bands.{IsBandOf, pfd_edge, pfh_edge}
use Rattle.sil_model.specs.declared.answers.Band.{Band}
use Rattle.sil_model.specs.declared.answers.Value.{Value}
use Rattle.sil_report.specs.FixedBy.{Interval, Counts, lines_of_counts, line_of_interval}

-- seven lines: five counts, and the intervals of PFDavg and PFH with their bands
unfoldable pub report_lines : Counts → Interval → Interval → List ℕ
report_lines counts pfd pfh = lines_of_counts counts ++ (line_of_interval (codes "pfd") pfd ++ line_of_interval (codes "pfh") pfh)

-- the text is the report of a value, of a mission of so many hours: its counts, and its intervals with the bands that hold them
pub record IsReport (mission : ℕ) (v : Value) (text : List ℕ) : Type 0 where
  pub pfd_band : Band
  pub pfh_band : Band
  pub is_pfd : IsBandOf pfd_edge v.pfd.lo v.pfd.hi pfd_band
  pub is_pfh : IsBandOf pfh_edge v.pfh.lo v.pfh.hi pfh_band
  pub printed : text ≡ report_lines (record { mission = mission; phases = v.phases; states = v.states; beats = v.beats; order = v.order })
      (record { lo = v.pfd.lo; hi = v.pfd.hi; band = pfd_band }) (record { lo = v.pfh.lo; hi = v.pfh.hi; band = pfh_band })
