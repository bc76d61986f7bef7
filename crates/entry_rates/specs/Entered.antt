-- The rate at which events between count vectors take an up loop down.
use Rattle.std.specs.Prelude.{ℕ, ◌+◌, ◌*◌, Bool, List, [], ◌∷◌, if◌then◌else◌}
use Rattle.sil_model.specs.State.{is_up_of}
use Rattle.sil_model.specs.LoopValue.{groups_of}
use Rattle.sil_model.specs.declared.parts.Subsystem.{Subsystem}
use Rattle.lumped_laws.specs.StateOfCounts.{state_of_counts}
use Rattle.common_cause.specs.declared.event.Rate.{Rate}
use Rattle.common_cause.specs.declared.event.Rate.TheVariants.{Fails, Repairs}
use Rattle.common_cause.specs.declared.event.LumpEvent.{LumpEvent}
use Rattle.common_cause.specs.LumpEvents.{lump_events_of}
use Rattle.common_cause.specs.LumpedRates.{spans, times_of, counts_after}

-- the rate of a failure, in 10^-18 per hour; a repair is none
abbrev pub failure_units_of : Rate → ℕ
failure_units_of (Fails n) = n
failure_units_of (Repairs n) = 0

module _ (us : List Subsystem) where
  -- whether the loop is up in the full states with these counts
  abbrev pub is_up_by : List ℕ → Bool
  is_up_by cs = is_up_of us (state_of_counts (groups_of us) cs)

  module _ (cs : List ℕ) where
    -- the rate at which a failure takes the loop down, for each channel that may fail so
    abbrev pub rate_down : LumpEvent → ℕ
    rate_down e = if is_up_by (counts_after (spans us) cs e) then 0 else times_of (spans us) cs e * failure_units_of e.rate

    abbrev pub rates_down : List LumpEvent → ℕ
    rates_down [] = 0
    rates_down (e ∷ es) = rate_down e + rates_down es

    -- the rate at which the loop is entered down, if it is up
    unfoldable pub entered_from : ℕ
    entered_from = if is_up_by cs then rates_down (lump_events_of us) else 0
