-- The laws of schedules: short beats, hours that count, and an end at which the loop is up or down.
use Rattle.std.specs.Prelude.{◌≡◌, ℕ, List, ◌++◌, slice_index_or}
use Rattle.sil_fraction.specs.Fraction.{◌+ℚ◌, whole}
use Rattle.sil_model.specs.State.{FullState}
use Rattle.sil_model.specs.Calendar.{phases_of}
use Rattle.sil_model.specs.Figures.{no_phase}
use Rattle.sil_model.specs.Pay.{Item, pay_of, schedule_of, schedule_of_phase, schedule_until}
use Rattle.sil_model.specs.Pay.Mode.{AtEnd, UpAtEnd}
use Rattle.sil_model.specs.LoopValue.{LoopValue, IsValid}
use Rattle.model_laws.specs.Hours.{hours_of, AreShort}

-- whatever is left of a schedule has short beats and tests with a chance of a fault
abbrev pub AreLeftShort : LoopValue → List Item → Type 0
AreLeftShort l items = (done left : List Item) → done ++ left ≡ items → AreShort l.subsystems left

-- whatever is left of a schedule, at its end the loop is down or up
abbrev pub AreLeftWhole : LoopValue → List Item → Type 0
AreLeftWhole l items = (n : ℕ) (done left : List Item) → done ++ left ≡ items → (s : FullState)
    → pay_of l.subsystems n AtEnd left s +ℚ pay_of l.subsystems n UpAtEnd left s ≡ whole 1

-- the laws of the schedules of a valid loop
pub record ScheduleLaw : Type 0 where
  pub mission_short : (l : LoopValue) → IsValid l → AreLeftShort l (schedule_of l)
  pub phase_short : (l : LoopValue) → IsValid l → (p : ℕ) → AreLeftShort l (schedule_of_phase l p)
  pub until_short : (l : LoopValue) → IsValid l → (p : ℕ) → AreLeftShort l (schedule_until l p)
  pub mission_hours : (l : LoopValue) → IsValid l → hours_of (schedule_of l) ≡ whole l.mission
  pub phase_hours : (l : LoopValue) → IsValid l → (p : ℕ) → hours_of (schedule_of_phase l p) ≡ whole (slice_index_or (phases_of l) p no_phase).hours
  pub mission_whole : (l : LoopValue) → IsValid l → AreLeftWhole l (schedule_of l)
  pub phase_whole : (l : LoopValue) → IsValid l → (p : ℕ) → AreLeftWhole l (schedule_of_phase l p)
  pub until_whole : (l : LoopValue) → IsValid l → (p : ℕ) → AreLeftWhole l (schedule_until l p)
