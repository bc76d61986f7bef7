-- The watchers of the program.
use Rattle.std.specs.Prelude.{List, [], ◌∷◌, None}
use Rattle.sil_watch.specs.Occupancy.{no_hours, occupancy_value}
use Rattle.sil_watch.specs.Peak.{peak_value}
use Rattle.sil_watch.specs.Series.{series_value}
use Rattle.sil_watch.specs.Watching.{WatcherValue}

-- in their order, as they are before a run: a series without records, a peak that keeps none, and an occupancy without hours
abbrev pub program_watchers : List WatcherValue
program_watchers = series_value [] ∷ peak_value None ∷ occupancy_value no_hours ∷ []
