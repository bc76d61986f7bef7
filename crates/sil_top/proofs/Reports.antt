-- A report of true figures, and what a report fixes.
use Rattle.std.proofs.Common.{◌≡◌, ℕ, ◌+◌, ◌≤◌, List, ◌++◌, length, refl, sym, ap, ◌∙◌, arith, append_assoc, if◌then◌else◌, true, false, inl, inr, Some, None}
use Rattle.std.specs.Prelude.{codes, option_map}
use Rattle.std.proofs.lemmas.List.{append_cancel_left}
use Rattle.sil_model.specs.LoopValue.{LoopValue, IsValid}
use Rattle.sil_model.specs.Budget.{pfd_width_of, pfh_width_of}
use Rattle.sil_model.specs.Calendar.{phases_of}
use Rattle.sil_model.specs.Sizes.{states_of, all_beats_of, first_limit_of}
use Rattle.sil_model.specs.Figures.{pfd_of, pfh_of, Contains18}
use Rattle.sil_model.specs.Bands.{IsBandOf, pfd_edge, pfh_edge}
use Rattle.sil_model.specs.declared.answers.Band.{Band}
use Rattle.sil_model.specs.declared.answers.Value.{Value}
use Rattle.schedule_laws.proofs.Small.{width_small}
use Rattle.limit_laws.specs.Exact.Figure.{Pfd, Pfh}
use Rattle.limit_laws.proofs.Figures.{exact_inside}
use Rattle.sil_report.specs.FixedBy.{AreWritableEnds, Interval, lines_of_counts, line_of_interval}
use Rattle.sil_report.specs.Reports.{report_lines, IsReport}
use Rattle.sil_report.proofs.FixedBy.{lines_fix_numbers}
use Rattle.sil_watch.specs.Lines.{lines_of_all}
use Rattle.sil_watch.specs.Watching.{WatcherValue}
use Rattle.sil_words.specs.declared.ask.Ask.{Ask}
use Rattle.loop_value.specs.Records.{HasFed}
use Rattle.sil_top.specs.Report.{counts_of, IsTrueReport, ReportsFixFigures}
use Rattle.sil_report.specs.Texts.{limit_fault_line_of}
use Rattle.sil_top.specs.Run.{Outcome, IsCalledBy, IsReported, is_shown, within_limits, without_limit}
use Rattle.sil_top.specs.declared.Status.TheVariants.{Done, NotShown}
use Rattle.sil_bands.proofs.Bands.{one_band}

-- the true report of a value, with the bands that its text has
record ReportOf (l : LoopValue) (v : Value) (text : List ℕ) (is : IsReport l.mission v text) : Type 0 where
  report : IsTrueReport l text
  pfd_band : report.pfd.band ≡ is.pfd_band
  pfh_band : report.pfh.band ≡ is.pfh_band

-- a value of true figures has a true report
true_report : (l : LoopValue) → IsValid l → first_limit_of l l.order ≡ None → (v : Value) (text : List ℕ) (is : IsReport l.mission v text)
    → ((N : ℕ) → l.order ≤ N → Contains18 v.pfd.lo v.pfd.hi (pfd_of N l)) → ((N : ℕ) → l.order ≤ N → Contains18 v.pfh.lo v.pfh.hi (pfh_of N l))
    → v.pfd.hi ≤ v.pfd.lo + pfd_width_of l l.order → v.pfh.hi ≤ v.pfh.lo + pfh_width_of l l.order
    → v.phases ≡ length (phases_of l) → v.states ≡ states_of l.subsystems → v.beats ≡ all_beats_of l → v.order ≡ l.order
    → ReportOf l v text is
true_report l valid within v text is pfd pfh narrow_pfd narrow_pfh phases states beats order = record {
  report = record {
    within = within;
    pfd = record { lo = v.pfd.lo; hi = v.pfd.hi; band = is.pfd_band };
    pfh = record { lo = v.pfh.lo; hi = v.pfh.hi; band = is.pfh_band };
    printed = rw (phases, states, beats, order) at is.printed;
    encloses_pfd = pfd;
    encloses_pfh = pfh;
    true_pfd = record {
      ordered = v.pfd.ordered;
      printable = v.pfd.printable;
      exact = exact_inside Pfd l valid l.order v.pfd.lo v.pfd.hi pfd;
      narrow = narrow_pfd;
      is_band = is.is_pfd;
    };
    true_pfh = record {
      ordered = v.pfh.ordered;
      printable = v.pfh.printable;
      exact = exact_inside Pfh l valid l.order v.pfh.lo v.pfh.hi pfh;
      narrow = narrow_pfh;
      is_band = is.is_pfh;
    };
    sharp = omega (arith, narrow_pfd, width_small l l.order (record { valid = valid; in_range = valid.order; within = within }));
  };
  pfd_band = refl;
  pfh_band = refl;
}

-- a true report, which shows what is needed where the bands of the value do, and the lines of watchers behind it, where the order
-- is known by another name
pub reported : (a : Ask) (l : LoopValue) → IsValid l → (order : ℕ) → order ≡ l.order → first_limit_of l order ≡ None → (v : Value) (o : Outcome)
    → (before after : List WatcherValue) → HasFed l order (length (phases_of l)) a.watch before after
    → (front : List ℕ) × IsReport l.mission v front × (o.text ≡ front ++ lines_of_all a.watch after)
    → ((N : ℕ) → order ≤ N → Contains18 v.pfd.lo v.pfd.hi (pfd_of N l)) → ((N : ℕ) → order ≤ N → Contains18 v.pfh.lo v.pfh.hi (pfh_of N l))
    → v.pfd.hi ≤ v.pfd.lo + pfd_width_of l order → v.pfh.hi ≤ v.pfh.lo + pfh_width_of l order
    → v.phases ≡ length (phases_of l) → v.states ≡ states_of l.subsystems → v.beats ≡ all_beats_of l → v.order ≡ order
    → (pfd pfh : Band) → IsBandOf pfd_edge v.pfd.lo v.pfd.hi pfd → IsBandOf pfh_edge v.pfh.lo v.pfh.hi pfh
    → o.status ≡ (if is_shown a.need a.mode pfd pfh then Done else NotShown) → IsCalledBy true (within_limits l (IsReported before a l)) o
reported a l valid order same within v o before after fed (front, is, printed) in_pfd in_pfh narrow_pfd narrow_pfh phases states beats is_order pfd pfh is_pfd is_pfh status =
    let none : first_limit_of l l.order ≡ None = rw same at within in
    let r = true_report l valid none v front is (rw same at in_pfd) (rw same at in_pfh) (rw same at narrow_pfd) (rw same at narrow_pfh)
    phases states beats (is_order ∙ same) in
    let first : pfd ≡ r.report.pfd.band = one_band pfd_edge v.pfd.lo v.pfd.hi pfd is.pfd_band is_pfd is.is_pfd ∙ sym r.pfd_band in
    let second : pfh ≡ r.report.pfh.band = one_band pfh_edge v.pfh.lo v.pfh.hi pfh is.pfh_band is_pfh is.is_pfh ∙ sym r.pfh_band in
    inr (
      ap (option_map limit_fault_line_of) none,
      is_shown a.need a.mode pfd pfh,
      record {
        front = front;
        lines = lines_of_all a.watch after;
        printed = printed;
        report = r.report;
        told = record { after = after; fed = rw same at fed; printed = refl };
        bands = ap (λ (b : Band). is_shown a.need a.mode b pfh) first ∙ ap (λ (b : Band). is_shown a.need a.mode r.report.pfd.band b) second;
      },
      status,
    )

-- the report of a loop that is within all limits
pub reported_within : (before : List WatcherValue) (a : Ask) (l : LoopValue) (o : Outcome) → first_limit_of l l.order ≡ None
    → IsCalledBy true (within_limits l (IsReported before a l)) o → IsCalledBy false (without_limit (IsReported before a l)) o
reported_within before a l o within (inl (reads, refusal, status)) =
    let none : Some o.text ≡ None = sym refusal ∙ ap (option_map limit_fault_line_of) within in absurd (cc)
reported_within before a l o within (inr (passes, shown, answer, status)) = inr (refl, shown, answer, status)

-- the intervals are read back from the last two lines, whatever is behind them
module _ (l : LoopValue) (s t more_s more_t : List ℕ) (a : IsTrueReport l s) (b : IsTrueReport l t) (same : s ++ more_s ≡ t ++ more_t) where
  ends_pfd : (text : List ℕ) (r : IsTrueReport l text) → AreWritableEnds r.pfd
  ends_pfd text r = record { lo = omega (arith, r.true_pfd.ordered, r.true_pfd.printable); hi = omega (arith, r.true_pfd.printable) }

  ends_pfh : (text : List ℕ) (r : IsTrueReport l text) → AreWritableEnds r.pfh
  ends_pfh text r = record { lo = omega (arith, r.true_pfh.ordered, r.true_pfh.printable); hi = omega (arith, r.true_pfh.printable) }

  -- a report and what is behind it, line by line
  in_lines : (text more : List ℕ) (r : IsTrueReport l text)
      → text ++ more ≡ lines_of_counts (counts_of l) ++ (line_of_interval (codes "pfd") r.pfd ++ (line_of_interval (codes "pfh") r.pfh ++ more))
  unfolding report_lines
  in_lines text more r =
      ap (λ (x : List ℕ). x ++ more) r.printed ∙ regroup (lines_of_counts (counts_of l)) (line_of_interval (codes "pfd") r.pfd) (line_of_interval (codes "pfh") r.pfh) more
    where
      regroup : (c p q m : List ℕ) → (c ++ (p ++ q)) ++ m ≡ c ++ (p ++ (q ++ m))
      regroup c p q m = simp append_assoc

  lines : line_of_interval (codes "pfd") a.pfd ++ (line_of_interval (codes "pfh") a.pfh ++ more_s)
      ≡ line_of_interval (codes "pfd") b.pfd ++ (line_of_interval (codes "pfh") b.pfh ++ more_t)
  lines = append_cancel_left (lines_of_counts (counts_of l)) _ _ (sym (in_lines s more_s a) ∙ same ∙ in_lines t more_t b)

  first : (a.pfd ≡ b.pfd) × (line_of_interval (codes "pfh") a.pfh ++ more_s ≡ line_of_interval (codes "pfh") b.pfh ++ more_t)
  first = lines_fix_numbers.interval (codes "pfd") a.pfd b.pfd _ _ (ends_pfd s a) (ends_pfd t b) lines

  second : (a.pfh ≡ b.pfh) × (more_s ≡ more_t)
  second = lines_fix_numbers.interval (codes "pfh") a.pfh b.pfh more_s more_t (ends_pfh s a) (ends_pfh t b) first.1

  pub same_pfd : a.pfd ≡ b.pfd
  same_pfd = first.0

  pub same_pfh : a.pfh ≡ b.pfh
  same_pfh = second.0

  pub same_ends : (s ≡ t) × (more_s ≡ more_t)
  same_ends = (
    a.printed ∙ ap (λ (i : Interval). report_lines (counts_of l) i a.pfh) same_pfd ∙ ap (λ (i : Interval). report_lines (counts_of l) b.pfd i) same_pfh ∙ sym b.printed,
    second.1,
  )

pub reports_fix_figures : ReportsFixFigures
reports_fix_figures = record { pfd = same_pfd; pfh = same_pfh; ends = same_ends }
