-- Sets of kinds of watchers: each kind is in a set, or is not.
use Rattle.std.specs.Prelude.{Bool, true, false}
use Rattle.sil_watch.specs.declared.kind.WatchSet.{WatchSet}
use Rattle.sil_watch.specs.declared.kind.WatcherKind.{WatcherKind}
use Rattle.sil_watch.specs.declared.kind.WatcherKind.TheVariants.{Series, Peak, Occupancy}

abbrev pub no_kinds : WatchSet
no_kinds = record { series = false; peak = false; occupancy = false }

-- a kind more
abbrev pub with_kind : WatcherKind → WatchSet → WatchSet
with_kind Series set = record set { series = true }
with_kind Peak set = record set { peak = true }
with_kind Occupancy set = record set { occupancy = true }

abbrev pub holds : WatchSet → WatcherKind → Bool
holds set Series = set.series
holds set Peak = set.peak
holds set Occupancy = set.occupancy
