-- Two orders of one beat, errors of small loops, and bounds of real numbers.
use Rattle.std.proofs.Common.{◌≡◌, true, false, refl}
use Rattle.sil_fraction.specs.Fraction.{Fraction, of, ◌+ℚ◌, ◌*ℚ◌, ◌-ℚ◌, ◌≤ℚ◌, whole, ratio, inverse}
use Rattle.sil_fraction.proofs.Laws.{le_antisymm, le_of_same}
use Rattle.sil_model.specs.State.{is_up_of, is_same_state}
use Rattle.sil_model.specs.Events.{events_of, events_from, flow_of, step_of, failure_rate, common_rate, share_of}
use Rattle.sil_model.specs.Calendar.{tests_at, test_hours_of, phases_of, beats_of, beat_rate_of}
use Rattle.sil_model.specs.Sizes.{all_beats_of}
use Rattle.sil_model.specs.Series.{factorial, series_of, tail_of, beat_of, mean_of}
use Rattle.sil_model.specs.Pay.{pay_of, payoff_of, last_of}
use Rattle.limit_laws.specs.Real.{Real, IsBetween, IsNearReal, Approaches}
use Rattle.limit_laws.specs.Bounds.{remainder_of, beat_count, most_of, pay_error, chance_error, entry_error}
use Rattle.limit_laws.proofs.Limits.{fraction_bounds, near_bounds, near_limit}
use Rattle.limit_laws.proofs.Exponentials.{series_near}
use Rattle.model_cases.specs.Orders.{OrderCases}

series_at_five : series_of 5 ≡ ratio 163 60
unfolding series_of factorial Fraction of ◌+ℚ◌ ◌*ℚ◌ ◌≤ℚ◌ whole inverse
series_at_five = le_antisymm _ _ refl refl

remainder_at_five : remainder_of 5 ≡ ratio 1 360
unfolding factorial Fraction of ◌+ℚ◌ ◌*ℚ◌ ◌≤ℚ◌ whole inverse
remainder_at_five = le_antisymm _ _ refl refl

lower : ratio 977 360 +ℚ ratio 1 360 ≡ ratio 163 60
unfolding Fraction of ◌+ℚ◌ ◌*ℚ◌ ◌≤ℚ◌ whole inverse
lower = le_antisymm _ _ refl refl

upper : ratio 163 60 +ℚ ratio 1 360 ≡ ratio 979 360
unfolding Fraction of ◌+ℚ◌ ◌*ℚ◌ ◌≤ℚ◌ whole inverse
upper = le_antisymm _ _ refl refl

-- the series at the order 5 differs from its limit by at most its remainder
euler : (e : Real) → Approaches series_of e → IsBetween (ratio 977 360) (ratio 979 360) e
euler e a =
    let near : IsNearReal (ratio 1 360) (ratio 163 60) e =
    rw (series_at_five, remainder_at_five) at (near_limit series_of e a (remainder_of 5) 5 (λ m h. series_near 5 m h)) in
    rw upper at (near_bounds (ratio 977 360) (ratio 1 360) (ratio 163 60) e (le_of_same _ _ lower) near)

below_one : whole 1 ≤ℚ ratio 1 2 → ⊥
unfolding Fraction of ◌+ℚ◌ ◌*ℚ◌ ◌≤ℚ◌ whole inverse
below_one h = let e : false ≡ true = h in cc

above_quarter : ratio 1 3 ≤ℚ ratio 1 4 → ⊥
unfolding Fraction of ◌+ℚ◌ ◌*ℚ◌ ◌≤ℚ◌ whole inverse
above_quarter h = let e : false ≡ true = h in cc

pub compared : OrderCases
unfolding pay_of payoff_of last_of factorial series_of tail_of beat_of mean_of events_of events_from flow_of step_of failure_rate common_rate share_of tests_at test_hours_of phases_of beats_of beat_rate_of all_beats_of beat_count most_of pay_error chance_error entry_error is_up_of is_same_state Fraction of ◌+ℚ◌ ◌*ℚ◌ ◌-ℚ◌ ◌≤ℚ◌ whole inverse
compared = record {
  after_a_beat = le_antisymm _ _ refl refl;
  during_a_beat = le_antisymm _ _ refl refl;
  differ = le_antisymm _ _ refl refl;
  remainder = le_antisymm _ _ refl refl;
  within = refl;
  schedule_error = le_antisymm _ _ refl refl;
  chance = le_antisymm _ _ refl refl;
  entries = le_antisymm _ _ refl refl;
  euler = euler;
  not_above = λ b. below_one (fraction_bounds _ _ _ b).1;
  not_below = λ b. above_quarter (fraction_bounds _ _ _ b).0;
}
