-- The cases compute.
use Rattle.std.proofs.Common.{refl}
use Rattle.sil_fraction.specs.Fraction.{Fraction, of, ◌+ℚ◌, ◌*ℚ◌, ◌-ℚ◌, ◌≤ℚ◌, whole, inverse}
use Rattle.sil_fraction.proofs.Laws.{le_antisymm}
use Rattle.sil_model.specs.State.{is_up_of, start_of, is_same_state}
use Rattle.sil_model.specs.Events.{events_of, events_from, flow_of, step_of, failure_rate, common_rate, share_of}
use Rattle.sil_model.specs.Calendar.{tests_at, test_hours_of, phases_of, beats_of, beat_rate_of}
use Rattle.sil_model.specs.Series.{factorial, series_of, tail_of, beat_of, mean_of}
use Rattle.sil_model.specs.Pay.{pay_of, payoff_of, last_of, passage_of, testing_of, schedule_of}
use Rattle.sil_model.specs.Figures.{pfd_of}
use Rattle.model_cases.specs.Cases.{WorkedCases}

pub worked : WorkedCases
unfolding pay_of payoff_of last_of passage_of testing_of schedule_of pfd_of factorial series_of tail_of beat_of mean_of events_of events_from flow_of step_of failure_rate common_rate share_of tests_at test_hours_of phases_of beats_of beat_rate_of is_up_of start_of is_same_state Fraction of ◌+ℚ◌ ◌*ℚ◌ ◌-ℚ◌ ◌≤ℚ◌ whole inverse
worked = record {
  after_a_beat = le_antisymm _ _ refl refl;
  during_a_beat = le_antisymm _ _ refl refl;
  common_cause = le_antisymm _ _ refl refl;
  common_cause_entries = le_antisymm _ _ refl refl;
  partial_test = le_antisymm _ _ refl refl;
  full_test = le_antisymm _ _ refl refl;
  passage = le_antisymm _ _ refl refl;
  no_passage = le_antisymm _ _ refl refl;
  two_beats = le_antisymm _ _ refl refl;
  test_hours = refl;
}
