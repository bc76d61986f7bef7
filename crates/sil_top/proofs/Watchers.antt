-- What watchers that are asked for make of the records of a loop's phases, and the lines that they tell.
use Rattle.std.proofs.Common.{◌≡◌, ◌∙◌, ℕ, zero, suc, ◌+◌, ◌^◌, ◌<◌, ◌≤◌, Bool, true, false, List, [], ◌∷◌, ◌++◌, length, map, get_or, None, refl, sym, ap, subst, arith, append_assoc, append-nil, zero-add, add-zero}
use Rattle.std.specs.List.{sum, sum_by}
use Rattle.std.proofs.lemmas.List.{get_or-map, length-map, ext_get_or}
use Rattle.std.proofs.lemmas.List.Sums.{sum-map, get_or-le-sum_by}
use Rattle.sil_fraction.specs.Fraction.{◌*ℚ◌, ◌≤ℚ◌, whole}
use Rattle.sil_fraction.proofs.Laws.{le_trans, whole-le}
use Rattle.sil_model.specs.Calendar.{Phase, phases_of}
use Rattle.sil_model.specs.Figures.{no_phase, IsPhase, phase_end_of}
use Rattle.sil_model.specs.LoopValue.{LoopValue, IsValid}
use Rattle.sil_model.specs.declared.answers.Band.{Band}
use Rattle.sil_model.specs.declared.answers.Band.TheVariants.{Beyond4, Sil4, Sil3, Sil2, Sil1, NoSil, Undecided}
use Rattle.schedule_laws.proofs.PhasesOfLoop.{length-phases_of, phases_of_fill}
use Rattle.sil_watch.specs.Kinds.{holds}
use Rattle.sil_watch.specs.Lines.{lines_of_all, lines_of_asked, line_of_record}
use Rattle.sil_watch.specs.Occupancy.{bands, capped, hours_in, hours_lines, no_hours, occupancy_value}
use Rattle.sil_watch.specs.Peak.{end_of, peak_lines, peak_value, with_greater, KeepsFirstGreatest}
use Rattle.sil_watch.specs.Records.{numbers_of, numbers_of_all}
use Rattle.sil_watch.specs.Series.{series_lines, series_value, with_record}
use Rattle.sil_watch.specs.Watching.{WatcherValue, fold_of, fed_of, fed_with, is_asked_of}
use Rattle.sil_watch.specs.declared.kind.WatchSet.{WatchSet}
use Rattle.sil_watch.specs.declared.kind.WatcherKind.TheVariants.{Series, Peak, Occupancy}
use Rattle.sil_watch.specs.declared.record.PhaseRecord.{PhaseRecord}
use Rattle.sil_watch.proofs.Folds.{fed-asked, fed-other}
use Rattle.sil_watch.proofs.Hours.{hours_add_up, seven}
use Rattle.sil_watch.proofs.Peaks.{peaks_keep_greatest}
use Rattle.loop_value.specs.Records.{IsRecordOf, AreRecordsFrom}
use Rattle.sil_top.specs.Program.{program_watchers}
use Rattle.sil_top.specs.Report.{IsToldOfPhases}
use Rattle.sil_top.specs.Watchers.{IsPeakOf, AreHoursOf, lines_if, WatchersTell}

-- the states that records make

lines_of_records : (rs : List PhaseRecord) → series_lines (numbers_of_all rs) ≡ map line_of_record rs
lines_of_records [] = refl
lines_of_records (r ∷ rs) = ap (λ (ls : List (List ℕ)). line_of_record r ∷ ls) (lines_of_records rs)

folded : (rs : List PhaseRecord) (state : List ℕ) → fold_of with_record state rs ≡ state ++ numbers_of_all rs
unfolding fold_of
folded [] state = sym (append-nil state)
folded (r ∷ rs) state = folded rs (state ++ numbers_of r) ∙ append_assoc state (numbers_of r) (numbers_of_all rs)

-- the hours of a band are no more than those of all
one_of_all : (rs : List PhaseRecord) (b : Band) → hours_in rs b ≤ sum_by (hours_in rs) bands
one_of_all rs Beyond4 = get_or-le-sum_by (hours_in rs) bands 0 Beyond4 (omega arith)
one_of_all rs Sil4 = get_or-le-sum_by (hours_in rs) bands 1 Sil4 (omega arith)
one_of_all rs Sil3 = get_or-le-sum_by (hours_in rs) bands 2 Sil3 (omega arith)
one_of_all rs Sil2 = get_or-le-sum_by (hours_in rs) bands 3 Sil2 (omega arith)
one_of_all rs Sil1 = get_or-le-sum_by (hours_in rs) bands 4 Sil1 (omega arith)
one_of_all rs NoSil = get_or-le-sum_by (hours_in rs) bands 5 NoSil (omega arith)
one_of_all rs Undecided = get_or-le-sum_by (hours_in rs) bands 6 Undecided (omega arith)

few : (n : ℕ) → n ≤ 350_400 → capped n ≡ n
few n h = omega arith

module _ (l : LoopValue) (order : ℕ) (rs : List PhaseRecord) (number : length rs ≡ length (phases_of l)) (are : AreRecordsFrom l order 0 rs) where
  -- the record of a phase
  record_from : (q : ℕ) (xs : List PhaseRecord) → AreRecordsFrom l order q xs → (i : ℕ) (d : PhaseRecord) → i < length xs → IsRecordOf l order (i + q) (get_or xs i d)
  record_from q [] h i d within = let none : ⊥ = omega arith in absurd none
  record_from q (x ∷ xs) h zero d within = rw (zero-add q) h.0
  record_from q (x ∷ xs) h (suc i) d within = let e : i + suc q ≡ suc i + q = omega arith in rw e at (record_from (suc q) xs h.1 i d (omega arith))

  record_at : (p : ℕ) (d : PhaseRecord) → IsPhase l p → IsRecordOf l order p (get_or rs p d)
  record_at p d within = rw (add-zero p) at (record_from 0 rs are p d (omega (arith, number)))

  some : 0 < length rs
  some = omega (arith, number, length-phases_of l)

  -- the peak
  module _ (k : KeepsFirstGreatest rs (fold_of with_greater [] rs)) where
    place_within : IsPhase l k.place
    place_within = omega (arith, k.first.0, number)

    most : (p : ℕ) → IsPhase l p → (N : ℕ) → order ≤ N → phase_end_of N l p *ℚ whole (10 ^ 18) ≤ℚ whole k.kept.at_end.hi
    most p within N o =
        let greatest : (get_or rs p k.kept).at_end.hi ≤ k.kept.at_end.hi = subst (λ (r : PhaseRecord). (get_or rs p k.kept).at_end.hi ≤ r.at_end.hi) k.at (k.first.1 p k.kept (omega (arith, number))) in
        le_trans _ _ _ ((record_at p k.kept within).at_end N o).below (whole-le _ _ greatest)

    is_peak : IsPeakOf l order rs k.kept
    is_peak = record {
      phase = k.place;
      within = place_within;
      at = k.at;
      is = subst (IsRecordOf l order k.place) k.at (record_at k.place k.kept place_within);
      first = k.first;
      most = most;
    }

  -- the hours
  hours_at : (i : ℕ) → i < length rs → get_or (map (λ (r : PhaseRecord). r.hours) rs) i 0 ≡ get_or (map (λ (p : Phase). p.hours) (phases_of l)) i 0
  hours_at i h =
      let d : PhaseRecord = (peaks_keep_greatest rs some).kept in
      get_or-map (λ (r : PhaseRecord). r.hours) rs i d 0 h ∙ (record_at i d (omega (arith, number))).hours
      ∙ sym (get_or-map (λ (p : Phase). p.hours) (phases_of l) i no_phase 0 (omega (arith, number)))

  hours_fill : sum_by (λ (r : PhaseRecord). r.hours) rs ≡ l.mission
  hours_fill =
      let same : map (λ (r : PhaseRecord). r.hours) rs ≡ map (λ (p : Phase). p.hours) (phases_of l)
      = ext_get_or 0 (map (λ (r : PhaseRecord). r.hours) rs) (map (λ (p : Phase). p.hours) (phases_of l))
      (length-map rs (λ (r : PhaseRecord). r.hours) ∙ number ∙ sym (length-map (phases_of l) (λ (p : Phase). p.hours)))
      (λ i h. hours_at i (omega (arith, h, length-map rs (λ (r : PhaseRecord). r.hours)))) in
      sym (sum-map (λ (r : PhaseRecord). r.hours) rs) ∙ ap sum same ∙ sum-map (λ (p : Phase). p.hours) (phases_of l) ∙ phases_of_fill l

  are_hours : IsValid l → AreHoursOf l rs (map (λ band. capped (hours_in rs band)) bands)
  are_hours valid =
      let all : sum_by (hours_in rs) bands ≡ l.mission = hours_add_up.all rs ∙ hours_fill in
      let fits : (b : Band) → capped (hours_in rs b) ≡ hours_in rs b = λ (b : Band). few (hours_in rs b) (omega (arith, one_of_all rs b, all, valid.mission.above)) in
      record {
        each = seven _ _ _ _ _ _ _ _ _ _ _ _ _ _ (fits Beyond4) (fits Sil4) (fits Sil3) (fits Sil2) (fits Sil1) (fits NoSil) (fits Undecided);
        all = all;
      }

-- the lines of a watcher that took in records, if it is asked for
told : (asked : WatchSet) (rs : List PhaseRecord) (w : WatcherValue) (b : Bool) → is_asked_of asked w ≡ b
    → lines_of_asked asked (fed_of asked rs w) ≡ lines_if b (w.lines (fold_of w.rule w.state rs))
unfolding lines_of_asked
told asked rs w true e = rw (fed-asked asked rs w e) (rw e refl)
told asked rs w false e = rw (fed-other asked rs w e) (rw e refl)

-- a watcher of a list that took in records
fed_at : (asked : WatchSet) (rs : List PhaseRecord) (before after : List WatcherValue) (i : ℕ) (d w : WatcherValue) → after ≡ map (fed_of asked rs) before
    → i < length before → get_or before i d ≡ w → is_asked_of asked w ≡ true → get_or after i d ≡ fed_with rs w
fed_at asked rs before after i d w fed within at is =
    ap (λ (ws : List WatcherValue). get_or ws i d) fed ∙ get_or-map (fed_of asked rs) before i d d within ∙ ap (fed_of asked rs) at ∙ fed-asked asked rs w is

-- the lines of the three
three : (l : LoopValue) (asked : WatchSet) (text : List ℕ) (t : IsToldOfPhases l asked program_watchers text) (r : PhaseRecord)
    → fold_of with_greater [] t.fed.records ≡ end_of r
    → text ≡ lines_if (holds asked Series) (map line_of_record t.fed.records)
    ++ (lines_if (holds asked Peak) (peak_lines (end_of r))
    ++ lines_if (holds asked Occupancy) (hours_lines (map (λ band. capped (hours_in t.fed.records band)) bands)))
three l asked text t r kept =
    let rs : List PhaseRecord = t.fed.records in
    let series : lines_of_asked asked (fed_of asked rs (series_value [])) ≡ lines_if (holds asked Series) (map line_of_record rs)
    = told asked rs (series_value []) (holds asked Series) refl ∙ ap (λ (s : List ℕ). lines_if (holds asked Series) (series_lines s)) (folded rs []) ∙ ap (lines_if (holds asked Series)) (lines_of_records rs) in
    let peak : lines_of_asked asked (fed_of asked rs (peak_value None)) ≡ lines_if (holds asked Peak) (peak_lines (end_of r))
    = told asked rs (peak_value None) (holds asked Peak) refl ∙ ap (λ (s : List ℕ). lines_if (holds asked Peak) (peak_lines s)) kept in
    let hours : lines_of_asked asked (fed_of asked rs (occupancy_value no_hours)) ≡ lines_if (holds asked Occupancy) (hours_lines (map (λ band. capped (hours_in rs band)) bands))
    = told asked rs (occupancy_value no_hours) (holds asked Occupancy) refl ∙ ap (λ (s : List ℕ). lines_if (holds asked Occupancy) (hours_lines s)) (hours_add_up.each rs) in
    t.printed ∙ ap (lines_of_all asked) t.fed.fed ∙ together _ _ _ _ _ _ series peak hours
  where
    together : (a b c a' b' c' : List ℕ) → a ≡ a' → b ≡ b' → c ≡ c' → a ++ (b ++ (c ++ [])) ≡ a' ++ (b' ++ c')
    together a b c a' b' c' p q r = rw (append-nil c, p, q, r) refl

pub watchers_tell : WatchersTell
watchers_tell = record {
  told = λ l asked text t.
      let rs : List PhaseRecord = t.fed.records in
      let k : KeepsFirstGreatest rs (fold_of with_greater [] rs) = peaks_keep_greatest rs (some l l.order rs t.fed.number t.fed.are) in
      record {
        records = rs;
        number = t.fed.number;
        are = t.fed.are;
        peak = k.kept;
        is_peak = is_peak l l.order rs t.fed.number t.fed.are k;
        hours = map (λ band. capped (hours_in rs band)) bands;
        are_hours = are_hours l l.order rs t.fed.number t.fed.are;
        printed = three l asked text t k.kept k.is;
      };
  series = λ l order asked before after i d f within at is.
      fed_at asked f.records before after i d (series_value []) f.fed within at is ∙ ap (λ (s : List ℕ). record (series_value []) { state = s }) (folded f.records []);
  peak = λ l order asked before after i d f within at is.
      let k : KeepsFirstGreatest f.records (fold_of with_greater [] f.records) = peaks_keep_greatest f.records (some l order f.records f.number f.are) in (
        k.kept,
        fed_at asked f.records before after i d (peak_value None) f.fed within at is ∙ ap (λ (s : List ℕ). record (peak_value None) { state = s }) k.is,
        is_peak l order f.records f.number f.are k,
      );
  occupancy = λ l order asked before after i d f within at is valid. (
    map (λ band. capped (hours_in f.records band)) bands,
    fed_at asked f.records before after i d (occupancy_value no_hours) f.fed within at is ∙ ap (λ (s : List ℕ). occupancy_value s) (hours_add_up.each f.records),
    are_hours l order f.records f.number f.are valid,
  );
}
