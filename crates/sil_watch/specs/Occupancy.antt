-- An occupancy as a watcher: its state holds seven numbers of hours, one for each band in their order, and each has a line.
use Rattle.std.specs.Prelude.{◌≡◌, ℕ, ◌+◌, ◌-◌, ◌^◌, min, List, [], ◌∷◌, ◌++◌, map, slice_index, slice_set, codes, decimal, ◌==◌, if◌then◌else◌}
use Rattle.std.specs.List.{sum_by}
use Rattle.sil_bands.specs.BandOf.{place_of, pfd_band_of}
use Rattle.sil_bands.specs.Texts.{band_text_of}
use Rattle.sil_model.specs.declared.answers.Band.{Band}
use Rattle.sil_model.specs.declared.answers.Band.TheVariants.{Beyond4, Sil4, Sil3, Sil2, Sil1, NoSil, Undecided}
use Rattle.sil_watch.specs.Watching.{WatcherValue, fold_of}
use Rattle.sil_watch.specs.declared.kind.WatcherKind.TheVariants.{Occupancy}
use Rattle.sil_watch.specs.declared.record.PhaseRecord.{PhaseRecord}

-- the bands, in the order of their places
abbrev pub bands : List Band
bands = Beyond4 ∷ Sil4 ∷ Sil3 ∷ Sil2 ∷ Sil1 ∷ NoSil ∷ Undecided ∷ []

-- the band of the mean of PFD over the phase
abbrev pub band_of_mean : PhaseRecord → Band
band_of_mean r = pfd_band_of r.mean.lo r.mean.hi

-- a number of hours is at most the greatest u64
abbrev pub capped : ℕ → ℕ
capped hours = min hours (2 ^ 64 - 1)

-- a record more: its hours are added to those of the band of its mean
abbrev pub with_hours : List ℕ → PhaseRecord → List ℕ
with_hours state r = let place = place_of (band_of_mean r) in slice_set state place (capped (slice_index state place + r.hours))

abbrev pub hours_line : Band → ℕ → List ℕ
hours_line band hours = codes "hours " ++ (band_text_of band ++ (codes " " ++ decimal hours))

-- a line for each band
abbrev pub hours_lines : List ℕ → List (List ℕ)
hours_lines state = map (λ band. hours_line band (slice_index state (place_of band))) bands

-- no hours in any band
abbrev pub no_hours : List ℕ
no_hours = 0 ∷ 0 ∷ 0 ∷ 0 ∷ 0 ∷ 0 ∷ 0 ∷ []

-- the occupancy that holds these hours
abbrev pub occupancy_value : List ℕ → WatcherValue
occupancy_value hours = record { kind = Occupancy; state = hours; rule = with_hours; lines = hours_lines }

-- the hours of the records whose mean has this band
abbrev pub hours_in : List PhaseRecord → Band → ℕ
hours_in rs band = sum_by (λ (r : PhaseRecord). if place_of (band_of_mean r) == place_of band then r.hours else 0) rs

-- an occupancy that held no hours before holds these of each band, and together they are the hours of all records
pub record HoursAddUp : Type 0 where
  pub each : (rs : List PhaseRecord) → fold_of with_hours no_hours rs ≡ map (λ band. capped (hours_in rs band)) bands
  pub all : (rs : List PhaseRecord) → sum_by (hours_in rs) bands ≡ sum_by (λ (r : PhaseRecord). r.hours) rs
