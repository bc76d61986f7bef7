-- The cases of phases compute.
use Rattle.std.proofs.Common.{refl, arith}
use Rattle.sil_fraction.specs.Fraction.{Fraction, of, ◌+ℚ◌, ◌*ℚ◌, ◌-ℚ◌, ◌≤ℚ◌, whole, inverse}
use Rattle.sil_fraction.proofs.Laws.{le_antisymm}
use Rattle.sil_model.specs.State.{is_up_of, start_of, is_same_state}
use Rattle.sil_model.specs.Events.{events_of, events_from, flow_of, step_of, failure_rate, common_rate, share_of}
use Rattle.sil_model.specs.Calendar.{tests_at, test_hours_of, phases_of, beats_of, beat_rate_of}
use Rattle.sil_model.specs.Series.{factorial, series_of, tail_of, beat_of, mean_of}
use Rattle.sil_model.specs.Pay.{pay_of, payoff_of, last_of, passage_of, testing_of, schedule_of, schedule_of_phase, schedule_until}
use Rattle.sil_model.specs.Figures.{pfd_of, pfh_of, phase_mean_of, phase_end_of}
use Rattle.model_cases.specs.Cases.{PhaseCases}

pub phases : PhaseCases
unfolding pay_of payoff_of last_of passage_of testing_of schedule_of schedule_of_phase schedule_until pfd_of pfh_of phase_mean_of phase_end_of factorial series_of tail_of beat_of mean_of events_of events_from flow_of step_of failure_rate common_rate share_of tests_at test_hours_of phases_of beats_of beat_rate_of is_up_of start_of is_same_state Fraction of ◌+ℚ◌ ◌*ℚ◌ ◌-ℚ◌ ◌≤ℚ◌ whole inverse
phases = record {
  numbered = omega arith;
  no_more = λ h. omega arith;
  average = le_antisymm _ _ refl refl;
  high_demand = le_antisymm _ _ refl refl;
  mean = le_antisymm _ _ refl refl;
  first_end = le_antisymm _ _ refl refl;
  second_end = le_antisymm _ _ refl refl;
  two_beats = le_antisymm _ _ refl refl;
}
