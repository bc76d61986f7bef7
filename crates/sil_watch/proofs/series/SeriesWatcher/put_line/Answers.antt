use Rattle.std.proofs.Common.{◌≡◌, ◌++◌, ℕ, ◌<◌, ◌≤◌, List, [], length, get_or, refl, sym, ap, ◌∙◌, arith}
use Rattle.std.specs.Prelude.{codes}
use Rattle.sil_watch.specs.Lines.{line_of_record}
use Rattle.sil_watch.specs.Series.{series_lines}
use Rattle.sil_watch.specs.Records.{numbers_of_all}
use Rattle.sil_watch.specs.declared.record.PhaseRecord.{PhaseRecord}
use Rattle.sil_watch.proofs.SeriesLines.{lines_count, line_at}
use Rattle.sil_watch.proofs.series.SeriesWatcher.put_line.Goals as goal

no_line : (rs : List PhaseRecord) (i : ℕ) → length rs ≤ i → length (series_lines (numbers_of_all rs)) ≤ i
no_line rs i h = omega (arith, lines_count rs, h)

some_line : (rs : List PhaseRecord) (i : ℕ) → i < length rs → i < length (series_lines (numbers_of_all rs))
some_line rs i h = omega (arith, lines_count rs, h)

is_put : (rs : List PhaseRecord) (i : ℕ) (r : PhaseRecord) (line before after : List ℕ) → i < length rs → r ≡ get_or rs i r
    → line ≡ line_of_record r ++ codes "\n" → after ≡ before ++ line
    → after ≡ before ++ (get_or (series_lines (numbers_of_all rs)) i [] ++ codes "\n")
is_put rs i r line before after within is written put =
    put ∙ ap (λ (xs : List ℕ). before ++ xs) (written ∙ ap (λ (xs : List ℕ). xs ++ codes "\n") (sym (line_at rs i r within (sym is))))

pub returns-in_default-clause-line : goal.returns-in_default-clause-line
returns-in_default-clause-line c =
    (no_line c.args.self.now c.args.i (rw (c.deref.ensures.value, c.self.view_is) at c.in_default.ensures.lookup.3), refl)

pub returns-clause-line : goal.returns-clause-line
returns-clause-line c =
    let found = c.in-Some.ensures.lookup.3 in (
      some_line c.args.self.now c.args.i (rw (c.deref.ensures.value, c.self.view_is) at found.0),
      is_put c.args.self.now c.args.i c.in-Some.rec.now c.in_ok-line.line.items c.args.out.now.items c.extend_from_slice.new.self.items
          (rw (c.deref.ensures.value, c.self.view_is) at found.0) (rw (c.deref.ensures.value, c.self.view_is) at (found.1 c.in-Some.rec.now))
          c.in_ok-line.ensures (rw c.as_slice.ensures.value at c.in_ok-extend_from_slice.ensures.items),
    )
