-- The lines of watchers.
use Rattle.std.specs.Prelude.{◌≡◌, ℕ, ◌<◌, ◌≤◌, Bool, true, false, List, [], ◌++◌, length, slice_index_or, codes, decimal, if◌then◌else◌}
use Rattle.std.specs.List.{flat_map}
use Rattle.sil_text.specs.Figure.{decimal18}
use Rattle.sil_watch.specs.Watching.{WatcherValue, is_asked_of}
use Rattle.sil_watch.specs.declared.kind.WatchSet.{WatchSet}
use Rattle.sil_watch.specs.declared.record.PhaseRecord.{PhaseRecord}

-- what is put of line i: the line and a line feed, or nothing where there is no such line
abbrev pub IsLineAt : List (List ℕ) → ℕ → Bool → List ℕ → List ℕ → Type 0
IsLineAt lines i true before after = (i < length lines) × (after ≡ before ++ (slice_index_or lines i [] ++ codes "\n"))
IsLineAt lines i false before after = (length lines ≤ i) × (after ≡ before)

-- lines one after another, each ended by a line feed
abbrev pub text_of_lines : List (List ℕ) → List ℕ
text_of_lines lines = flat_map (λ line. line ++ codes "\n") lines

-- the lines of a watcher, if it is asked for
unfoldable pub lines_of_asked : WatchSet → WatcherValue → List ℕ
lines_of_asked asked w = if is_asked_of asked w then text_of_lines (w.lines w.state) else []

-- the lines of watchers in a list, of those that are asked for
abbrev pub lines_of_all : WatchSet → List WatcherValue → List ℕ
lines_of_all asked ws = flat_map (lines_of_asked asked) ws

-- the two ends of an interval, in units of 10^-18
abbrev pub interval_text : ℕ → ℕ → List ℕ
interval_text lo hi = decimal18 lo ++ (codes " .. " ++ decimal18 hi)

-- a phase in a line
unfoldable pub phase_line : ℕ → ℕ → ℕ → ℕ → ℕ → ℕ → ℕ → List ℕ
phase_line index start hours mean_lo mean_hi end_lo end_hi =
    codes "phase " ++ (decimal index ++ (codes " start " ++ (decimal start ++ (codes " hours " ++ (decimal hours
    ++ (codes " mean " ++ (interval_text mean_lo mean_hi ++ (codes " end " ++ interval_text end_lo end_hi))))))))

abbrev pub line_of_record : PhaseRecord → List ℕ
line_of_record r = phase_line r.index r.start r.hours r.mean.lo r.mean.hi r.at_end.lo r.at_end.hi
