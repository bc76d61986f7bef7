-- Value lists: a value for the number of each count vector, and what is expected of them.
use Rattle.std.specs.Prelude.{ℕ, ◌&&◌, not, List}
use Rattle.sil_fraction.specs.Fraction.{Fraction, ◌*ℚ◌, whole, inverse}
use Rattle.sil_model.specs.State.{FullState, is_up_of}
use Rattle.sil_model.specs.Events.{events_of, step_of}
use Rattle.sil_model.specs.Series.{Values, times, beat_of, mean_of}
use Rattle.sil_model.specs.Calendar.{ChannelTest}
use Rattle.sil_model.specs.Pay.{Mode, one_if}
use Rattle.sil_model.specs.Pay.Mode.{Down, Up, Entry, AtEnd, UpAtEnd}
use Rattle.sil_model.specs.declared.parts.Subsystem.{Subsystem}
use Rattle.model_laws.specs.Polynomial.{means_of}
use Rattle.count_laws.specs.AfterTests.{after_tests}
use Rattle.lumped_laws.specs.CountsOfState.{number_of_state}
use Rattle.lumped_laws.specs.StateOfCounts.{state_numbered}

module _ (us : List Subsystem) where
  -- a value list at the number of a full state
  abbrev pub at_number : Values ℕ → FullState → Fraction
  at_number f s = f (number_of_state us s)

  -- one step of h hours from the full state of each number
  unfoldable pub tick_list : Fraction → Values ℕ → Values ℕ
  tick_list h f i = step_of (events_of us) h (at_number f) (state_numbered us i)

  -- a beat of h hours by the series up to the order n, and the mean during it
  abbrev pub beat_list : ℕ → Fraction → Values ℕ → Values ℕ
  beat_list n h f = beat_of (tick_list h) n f

  abbrev pub mean_list : ℕ → Fraction → Values ℕ → Values ℕ
  mean_list n h f = mean_of (tick_list h) n f

  -- a phase of so many beats, and the mean during it
  abbrev pub phase_list : ℕ → Fraction → ℕ → Values ℕ → Values ℕ
  phase_list n h beats f = times (beat_list n h) beats f

  abbrev pub phase_mean_list : ℕ → Fraction → ℕ → Values ℕ → Values ℕ
  phase_mean_list n h beats f i = means_of (beat_list n h) (mean_list n h) beats f i *ℚ inverse (whole beats)

  -- the tests of an hour from the full state of each number
  unfoldable pub test_list : List ChannelTest → Values ℕ → Values ℕ
  test_list ts f i = after_tests ts (at_number f) (state_numbered us i)

  -- the chance that the loop is up before the tests and not after them
  unfoldable pub passing : List ChannelTest → Values ℕ
  passing ts i = after_tests ts (λ s. one_if (is_up_of us (state_numbered us i) && not (is_up_of us s))) (state_numbered us i)

  -- what is counted at the tests of an hour
  unfoldable pub passing_list : Mode → List ChannelTest → Values ℕ
  passing_list Entry ts i = passing ts i
  passing_list Down ts i = whole 0
  passing_list Up ts i = whole 0
  passing_list AtEnd ts i = whole 0
  passing_list UpAtEnd ts i = whole 0
