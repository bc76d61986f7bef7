-- A mission that is under way: what was counted up to a phase, against what was expected from the start.
use Rattle.std.specs.Prelude.{ℕ, ◌≤◌, true, List, drop}
use Rattle.sil_fraction.specs.Fraction.{Fraction, ◌+ℚ◌, ◌*ℚ◌, ◌≤ℚ◌, whole, ratio}
use Rattle.sil_model.specs.Series.{Values}
use Rattle.sil_model.specs.Calendar.{ChannelTest, phases_of}
use Rattle.sil_model.specs.LoopValue.{LoopValue}
use Rattle.sil_model.specs.Pay.{Item, items_from, schedule_of}
use Rattle.sil_model.specs.Pay.Mode.{Down, Up, Entry}
use Rattle.sil_model.specs.declared.parts.Subsystem.{Subsystem}
use Rattle.lumped_laws.specs.ValueLists.{phase_list, phase_mean_list, test_list, passing}
use Rattle.lumped_laws.specs.PayList.{payoff_list}
use Rattle.vector_laws.specs.Vectors.{weigh}
use Rattle.mission_laws.specs.Paid.{HasPaid}
use Rattle.mission_laws.specs.Calm.{calm_list, staying}

-- what is left of the schedule from the phase p on
abbrev pub items_after : LoopValue → ℕ → List Item
items_after l p = items_from l (λ q. true) p (drop p (phases_of l))

-- the phases before p are over, with this dwell in hours and this vector at the start of p; so much has passed at tests at
-- least, and so much has stayed
pub record IsUnderWay (l : LoopValue) (order : ℕ) (greatest : Fraction) (p : ℕ) (dwell v : List ℕ) (passed stayed : ℕ) : Type 0 where
  pub down : (n : ℕ) → order ≤ n
      → HasPaid l.subsystems n (payoff_list l.subsystems Down) (λ ts i. whole 0) (λ i. whole 0) (schedule_of l) (items_after l p) dwell v 0
  pub up : (n : ℕ) → order ≤ n
      → HasPaid l.subsystems n (payoff_list l.subsystems Up) (λ ts i. whole 0) (λ i. whole 0) (schedule_of l) (items_after l p) dwell v 0
  pub entry : (n : ℕ) → order ≤ n
      → HasPaid l.subsystems n (payoff_list l.subsystems Entry) (passing l.subsystems) (λ i. whole 0) (schedule_of l) (items_after l p) dwell v passed
  pub calm : (n : ℕ) → order ≤ n
      → HasPaid l.subsystems n (calm_list l.subsystems greatest) (staying l.subsystems) (λ i. whole 0) (schedule_of l) (items_after l p) dwell v stayed

-- a phase of t hours in so many beats, on a vector and on the dwell in hours, in every order from this one on
pub record PassesPhase (us : List Subsystem) (order t beats : ℕ) (v v' dwell dwell' : List ℕ) : Type 0 where
  pub ends : (n : ℕ) → order ≤ n → (f : Values ℕ) → weigh v' f ≤ℚ weigh v (phase_list us n (ratio t beats) beats f)
  pub stays : (n : ℕ) → order ≤ n → (f : Values ℕ)
      → weigh dwell' f ≤ℚ weigh dwell f +ℚ whole t *ℚ weigh v (phase_mean_list us n (ratio t beats) beats f)

-- the tests of an hour on a vector, at which at least `least` and at most `most` passes
pub record PassesTests (us : List Subsystem) (ts : List ChannelTest) (v v' : List ℕ) (least stayed : ℕ) : Type 0 where
  pub ends : (f : Values ℕ) → weigh v' f ≤ℚ weigh v (test_list us ts f)
  pub pass : whole least ≤ℚ weigh v (passing us ts)
  pub stay : whole stayed ≤ℚ weigh v (staying us ts)
