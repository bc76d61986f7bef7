use Rattle.std.proofs.Common.{◌≡◌, ◌++◌, ℕ, List, ap, ◌∙◌, append_assoc}
use Rattle.std.specs.Prelude.{codes}
use Rattle.sil_report.specs.Texts.{counts_text}
use Rattle.sil_report.specs.FixedBy.{Interval, Counts, line_of_interval, lines_of_counts}
use Rattle.sil_report.specs.Reports.{report_lines}
use Rattle.sil_report.proofs.reports.report.Goals as goal

-- the lines one after another
in_lines : (counts : Counts) (pfd pfh : Interval) (first second third : List ℕ) → first ≡ lines_of_counts counts
    → second ≡ first ++ line_of_interval (codes "pfd") pfd → third ≡ second ++ line_of_interval (codes "pfh") pfh → third ≡ report_lines counts pfd pfh
unfolding report_lines
in_lines counts pfd pfh first second third a b c =
    c ∙ ap (λ (xs : List ℕ). xs ++ line_of_interval (codes "pfh") pfh) (b ∙ ap (λ (xs : List ℕ). xs ++ line_of_interval (codes "pfd") pfd) a)
    ∙ append_assoc (lines_of_counts counts) (line_of_interval (codes "pfd") pfd) (line_of_interval (codes "pfh") pfh)

pub returns : goal.returns
returns c = record {
  pfd_band = c.pfd_band.result;
  pfh_band = c.pfh_band.result;
  is_pfd = c.pfd_band.ensures;
  is_pfh = c.pfh_band.ensures;
  printed = in_lines _ _ _ c.into_bytes-text.result.items c.push_interval.new.text.items c.push_interval-2.new.text.items
      (rw c.into_bytes-text.ensures.value (c.in_ok-counts.ensures ∙ ap (λ m. counts_text m c.args.v.now.phases c.args.v.now.states c.args.v.now.beats c.args.v.now.order) c.mission.ensures.mission))
      c.in_ok-push_interval.ensures c.in_ok-push_interval-2.ensures;
}
