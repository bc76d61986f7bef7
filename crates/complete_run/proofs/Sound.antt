-- `check loop.toml` over a shelf that has a sound file of this name calls for its report alone.
use Rattle.std.proofs.Common.{◌≡◌, ◌∙◌, ℕ, ◌≤◌, ◌⊎◌, Bool, true, List, [], ◌∷◌, ◌++◌, length, map, Option, Some, None, IsSome, inl, inr, if◌then◌else◌, refl, sym, ap, subst, arith}
use Rattle.std.specs.Prelude.{codes, option_map}
use Rattle.std.proofs.lemmas.List.{append-nil}
use Rattle.sil_model.specs.LoopValue.{LoopValue}
use Rattle.loop_file.specs.LoopFile.{IsLoopOf, HasFault}
use Rattle.sil_io.specs.Handed.{Handed}
use Rattle.verb_table.specs.Table.{verb_table, check_row}
use Rattle.verb_table.specs.declared.verb.Verb.TheVariants.{Check}
use Rattle.sil_watch.specs.Watching.{fed_of}
use Rattle.sil_watch.specs.Kinds.{no_kinds}
use Rattle.sil_watch.specs.Lines.{lines_of_all, lines_of_asked}
use Rattle.sil_watch.specs.Occupancy.{no_hours, occupancy_value}
use Rattle.sil_watch.specs.Peak.{peak_value}
use Rattle.sil_watch.specs.Series.{series_value}
use Rattle.sil_watch.specs.declared.record.PhaseRecord.{PhaseRecord}
use Rattle.sil_watch.proofs.Folds.{fed-other}
use Rattle.sil_report.specs.Texts.{limit_fault_line_of}
use Rattle.sil_words.specs.Language.{Asks, IsCall, Reading, plain}
use Rattle.sil_words.specs.declared.ask.Ask.{Ask}
use Rattle.sil_words.specs.declared.ask.Mode.TheVariants.{Low}
use Rattle.sil_words.proofs.OneWay.{one_ask}
use Rattle.sil_top.specs.Complete.{IsSound, IsHeld, refusal_of}
use Rattle.sil_top.specs.Program.{program_watchers}
use Rattle.sil_top.specs.Report.{IsTrueReport}
use Rattle.sil_top.specs.Run.{Outcome, Seen, reads_file, loop_calls, IsReported, IsCalledBy, IsRefusedFor, IsLoopFor, CallsFor}
use Rattle.sil_top.specs.declared.Status.TheVariants.{Done, NotShown}
use Rattle.sil_top.proofs.Complete.{one_asked, one_loop, sound_bytes}
use Rattle.complete_run.specs.Whole.{AreSound}
use Rattle.complete_run.proofs.Lengths.{length-report}

-- the words, and what they ask for

abbrev pub words : List (List ℕ)
words = codes "check" ∷ codes "loop.toml" ∷ []

abbrev pub asked : Ask
asked = record { verb = Check; name = codes "loop.toml"; number = 0; need = None; mode = Low; watch = no_kinds }

abbrev reading : Reading
reading = record { pieces = plain (codes "loop.toml") ∷ []; further = None }

is_call : IsCall words check_row reading
unfolding verb_table
is_call = record {
  word = codes "check";
  rest = codes "loop.toml" ∷ [];
  split = refl;
  verb = refl;
  reading = record { spelled = refl; pieces = refl; once = refl; required = refl; positional = refl };
}

pub asks : Asks words asked
asks = ((check_row, reading, is_call), λ other r is. one_ask words check_row other reading r is_call is)

reads : reads_file Check ≡ true
unfolding verb_table
reads = refl

-- an outcome is the report of this loop, and short
pub record IsShortReport (l : LoopValue) (o : Outcome) : Type 0 where
  pub status : o.status ≡ Done
  pub report : IsTrueReport l o.text
  pub short : length o.text ≤ 1024

no_lines : lines_of_all no_kinds program_watchers ≡ []
unfolding lines_of_asked
no_lines = refl

-- and each watcher is as before
unasked : (rs : List PhaseRecord) → map (fed_of no_kinds rs) program_watchers ≡ program_watchers
unasked rs =
    let series = fed-other no_kinds rs (series_value []) refl in
    let peak = fed-other no_kinds rs (peak_value None) refl in
    let occupancy = fed-other no_kinds rs (occupancy_value no_hours) refl in
    cc (series, peak, occupancy)

-- a report for which no watcher is asked is the report alone
alone : (l : LoopValue) (shown : Bool) (o : Outcome) → IsReported program_watchers asked l shown o.text
    → o.status ≡ (if shown then Done else NotShown) → IsShortReport l o
alone l shown o r status =
    let after : r.told.after ≡ program_watchers = r.told.fed.fed ∙ unasked r.told.fed.records in
    let lines : r.lines ≡ [] = r.told.printed ∙ ap (lines_of_all no_kinds) after ∙ no_lines in
    let text : o.text ≡ r.front = r.printed ∙ ap (λ xs. r.front ++ xs) lines ∙ append-nil r.front in
    record {
      status = status ∙ ap (λ (b : Bool). if b then Done else NotShown) r.bands;
      report = subst (IsTrueReport l) (sym text) r.report;
      short = subst (λ (xs : List ℕ). length xs ≤ 1024) (sym (text ∙ r.report.printed)) (length-report _ r.report.pfd r.report.pfh);
    }

module _ (file : List ℕ → Option (List ℕ)) (handed : Handed) (bytes : List ℕ) (l : LoopValue) (is_file : file (codes "loop.toml") ≡ Some bytes)
    (sound : AreSound bytes l) where
  -- what is seen of the run
  abbrev pub at : Seen
  at = record { watchers = program_watchers; tells = true; file = file; handed = handed }

  passes : refusal_of at asked l ≡ None
  passes = ap (option_map limit_fault_line_of) sound.within

  pub is_sound : IsSound at words
  is_sound = record {
    asked = asked;
    asks = asks;
    sound = λ e. (refl, record { bytes = bytes; is_file = is_file; short = sound.short; value = l; is_loop = sound.is_loop; passes = passes });
  }

  pub is_held : IsHeld file words
  is_held a is e =
      let name : a.name ≡ codes "loop.toml" = ap (λ (x : Ask). x.name) (one_asked words a asked is asks) in
      let there : file a.name ≡ Some bytes = ap file name ∙ is_file in
      subst IsSome (sym there) refl

  same_bytes : (other : List ℕ) → file (codes "loop.toml") ≡ Some other → other ≡ bytes
  same_bytes other e = let both : Some other ≡ Some bytes = sym e ∙ is_file in cc

  same_loop : (m : LoopValue) → IsLoopFor at asked m → m ≡ l
  same_loop m is_loop =
      let x = is_loop.of_file reads in
      one_loop bytes m l (subst (λ (xs : List ℕ). IsLoopOf xs m) (same_bytes x.bytes (x.whole.is_file refl)) x.is_loop) sound.is_loop

  of_asked : (o : Outcome) → IsRefusedFor at asked o ⊎ ((m : LoopValue) × IsLoopFor at asked m × IsCalledBy (reads_file Check) (loop_calls program_watchers asked m Check) o)
      → IsShortReport l o
  of_asked o (inl (e, inl x)) =
      let there = x.long refl in
      let size = ap length (same_bytes there.0 there.1) in
      let long = there.2 in let short = sound.short in absurd (omega (arith, size, long, short))
  of_asked o (inl (e, inr x)) =
      let same = same_bytes x.bytes (x.whole.is_file refl) in
      absurd (sound_bytes bytes l x.fault sound.is_loop (subst (λ (xs : List ℕ). HasFault xs x.fault) same x.first))
  of_asked o (inr (m, is_loop, inl (e, refusal, status))) =
      let first = subst (λ (n : LoopValue). refusal_of at asked n ≡ Some o.text) (same_loop m is_loop) refusal in
      let none : Some o.text ≡ None = sym first ∙ passes in absurd (cc)
  of_asked o (inr (m, is_loop, inr (e, shown, report, status))) =
      subst (λ (n : LoopValue). IsShortReport n o) (same_loop m is_loop) (alone m shown o report status)

  -- what is called for is the report
  pub calls_for_report : (o : Outcome) → CallsFor at words o → IsShortReport l o
  calls_for_report o (inl x) = absurd (x.outside asks.0)
  calls_for_report o (inr (a, is, x)) =
      of_asked o (subst (λ (b : Ask). IsRefusedFor at b o ⊎ ((m : LoopValue) × IsLoopFor at b m × IsCalledBy (reads_file b.verb) (loop_calls program_watchers b m b.verb) o))
      (one_asked words a asked is asks) x)
