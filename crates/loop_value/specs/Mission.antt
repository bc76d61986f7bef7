-- What the computation of a loop keeps from phase to phase.
use Rattle.std.specs.Prelude.{◌≡◌, ℕ, ◌+◌, ◌-◌, ◌*◌, ◌^◌, ◌≤◌, ◌<◌, Bool, List, length, map, slice_index, slice_index_or}
use Rattle.sil_fraction.specs.Fraction.{Fraction, ratio}
use Rattle.sil_model.specs.Budget.{failure_rate_of, group_tests_in}
use Rattle.sil_model.specs.Calendar.{beats_of, phases_of, test_hours_of}
use Rattle.sil_model.specs.LoopValue.{LoopValue, IsValid}
use Rattle.sil_model.specs.Sizes.{states_of}
use Rattle.sil_model.specs.Figures.{no_phase}
use Rattle.sil_model.specs.declared.parts.Subsystem.{Subsystem}
use Rattle.test_calendar.specs.GroupTests.{group_tests_at}
use Rattle.test_calendar.specs.PlanParts.{PlanValue}
use Rattle.sil_model.specs.State.{is_up_of}
use Rattle.sil_model.specs.Pay.Mode.{Entry}
use Rattle.lumped_laws.specs.PayList.{payoff_list}
use Rattle.lumped_laws.specs.StateOfCounts.{state_numbered}
use Rattle.uniformise.specs.Beat.{beat_products}
use Rattle.mission_laws.specs.Losses.{HasLost}
use Rattle.mission_laws.specs.UnderWay.{IsUnderWay}
use Rattle.mission_laws.specs.Arrived.{HasArrived}
use Rattle.phase_powers.specs.Products.{powered_products}
use Rattle.loop_value.specs.declared.preparing.Prepared.{Prepared}

-- the greatest rate at which a loop may go down
abbrev pub greatest_of : LoopValue → Fraction
greatest_of l = ratio (failure_rate_of l.subsystems) (10 ^ 18)

-- the phases before p are over: what was counted is no more than expected, and little was lost
pub record HasReached (l : LoopValue) (order p : ℕ) (dwell v : List ℕ) (least most : ℕ) : Type 0 where
  pub under_way : IsUnderWay l order (greatest_of l) p dwell v least (p * 2 ^ 48 - most)
  pub lost : HasLost l order p dwell v least most
  pub few : most ≤ p * 2 ^ 48
  pub arrived : HasArrived l order p v

-- the plan of a loop
pub record IsPlanOf (l : LoopValue) (p : PlanValue) : Type 0 where
  pub phases : p.phases ≡ phases_of l
  pub tests : p.tests ≡ map (group_tests_at l) (test_hours_of l)
  pub valid : IsValid l

-- the products of the tests of a group, of the phase p, and of the tests after it, at most
abbrev pub test_products : List Subsystem → ℕ
test_products us = 18 * states_of us + 200

abbrev pub phase_products : LoopValue → ℕ → ℕ → ℕ
phase_products l order p = beats_of l.subsystems (slice_index_or (phases_of l) p no_phase).hours * beat_products l.subsystems order

abbrev pub powered_phase : LoopValue → ℕ → (ℕ → ℕ) → ℕ → ℕ
powered_phase l order digits p =
    powered_products l.subsystems order (digits (beats_of l.subsystems (slice_index_or (phases_of l) p no_phase).hours))

abbrev pub tests_products : LoopValue → ℕ → ℕ
tests_products l p = group_tests_in l (slice_index (test_hours_of l) p) * test_products l.subsystems

-- all that the computation of a loop needs, and each part is of that loop
pub record IsReady (l : LoopValue) (p : Prepared) : Type 0 where
  pub rooms : p.rooms.of ≡ l
  pub tests : p.tests ≡ l
  pub up_length : length p.up.items ≡ states_of l.subsystems
  pub up : (i : ℕ) (d : Bool) → i < states_of l.subsystems → slice_index_or p.up.items i d ≡ is_up_of l.subsystems (state_numbered l.subsystems i)
  pub rates_length : length p.rates.items ≡ states_of l.subsystems
  pub rates : (i : ℕ) → i < states_of l.subsystems → ratio (slice_index p.rates.items i) (10 ^ 18) ≡ payoff_list l.subsystems Entry i
  pub rates_within : (i : ℕ) → slice_index p.rates.items i ≤ failure_rate_of l.subsystems
  pub v : length p.v.items ≡ states_of l.subsystems
  pub mean : length p.mean.items ≡ states_of l.subsystems
  pub dwell : length p.dwell.items ≡ states_of l.subsystems

-- the mission stands at the start of the phase q
abbrev pub StandsAt : LoopValue → ℕ → ℕ → Prepared → Type 0
StandsAt l order q p = HasReached l order q p.dwell.items p.v.items p.passages.least p.passages.most
