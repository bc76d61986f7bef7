-- A series as a watcher: its state holds the numbers of its records, and each record has a line.
use Rattle.std.specs.Prelude.{ℕ, List, [], ◌∷◌, ◌++◌}
use Rattle.sil_watch.specs.Lines.{phase_line}
use Rattle.sil_watch.specs.Records.{numbers_of, numbers_of_all}
use Rattle.sil_watch.specs.Watching.{WatcherValue}
use Rattle.sil_watch.specs.declared.kind.WatcherKind.TheVariants.{Series}
use Rattle.sil_watch.specs.declared.record.PhaseRecord.{PhaseRecord}

-- a record more
abbrev pub with_record : List ℕ → PhaseRecord → List ℕ
with_record state r = state ++ numbers_of r

-- the lines of the numbers of records
abbrev pub series_lines : List ℕ → List (List ℕ)
series_lines (index ∷ (start ∷ (hours ∷ (mean_lo ∷ (mean_hi ∷ (end_lo ∷ (end_hi ∷ more))))))) =
    phase_line index start hours mean_lo mean_hi end_lo end_hi ∷ series_lines more
series_lines _ = []

-- the series of these records
abbrev pub series_value : List PhaseRecord → WatcherValue
series_value rs = record { kind = Series; state = numbers_of_all rs; rule = with_record; lines = series_lines }
