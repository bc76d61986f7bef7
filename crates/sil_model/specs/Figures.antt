-- The figures of a loop, by the series up to the order n.
use Rattle.std.specs.Prelude.{ℕ, ◌<◌, ◌^◌, length, slice_index_or}
use Rattle.sil_fraction.specs.Fraction.{Fraction, ◌*ℚ◌, ◌≤ℚ◌, whole, inverse}
use Rattle.sil_model.specs.State.{start_of}
use Rattle.sil_model.specs.Calendar.{Phase, phases_of}
use Rattle.sil_model.specs.Pay.{pay_of, schedule_of, schedule_of_phase, schedule_until}
use Rattle.sil_model.specs.Pay.Mode.{Down, Entry, AtEnd}
use Rattle.sil_model.specs.LoopValue.{LoopValue}

-- PFDavg: the mean over the mission of the chance that the loop is down
unfoldable pub pfd_of : ℕ → LoopValue → Fraction
pfd_of n l = pay_of l.subsystems n Down (schedule_of l) (start_of l.subsystems) *ℚ inverse (whole l.mission)

-- PFH: the expected entries into being down, divided by the mission
unfoldable pub pfh_of : ℕ → LoopValue → Fraction
pfh_of n l = pay_of l.subsystems n Entry (schedule_of l) (start_of l.subsystems) *ℚ inverse (whole l.mission)

-- A phase has a number p, counted from 0 and below the number of phases; a record of it counts from 1, and so has the
-- index p + 1. The figures below are of such a number alone: of any other they say nothing.
abbrev pub IsPhase : LoopValue → ℕ → Type 0
IsPhase l p = p < length (phases_of l)

abbrev pub no_phase : Phase
no_phase = record { start = 0; hours = 0 }

-- the mean over the phase p of the chance that the loop is down
unfoldable pub phase_mean_of : ℕ → LoopValue → ℕ → Fraction
phase_mean_of n l p = pay_of l.subsystems n Down (schedule_of_phase l p) (start_of l.subsystems) *ℚ inverse (whole (slice_index_or (phases_of l) p no_phase).hours)

-- the chance that the loop is down after the last beat of the phase p, before the tests
unfoldable pub phase_end_of : ℕ → LoopValue → ℕ → Fraction
phase_end_of n l p = pay_of l.subsystems n AtEnd (schedule_until l p) (start_of l.subsystems)

-- the interval lo .. hi, in units of 10^-18, contains x
pub record Contains18 (lo hi : ℕ) (x : Fraction) : Type 0 where
  pub above : whole lo ≤ℚ x *ℚ whole (10 ^ 18)
  pub below : x *ℚ whole (10 ^ 18) ≤ℚ whole hi
