-- The same counts law: from full states with the same counts, the same is expected.
use Rattle.std.specs.Prelude.{◌≡◌, ℕ, List, ◌++◌}
use Rattle.sil_model.specs.State.{FullState}
use Rattle.sil_model.specs.LoopValue.{LoopValue}
use Rattle.sil_model.specs.Pay.{Item, Mode, pay_of, schedule_of, schedule_of_phase, schedule_until}
use Rattle.count_laws.specs.SameCounts.{IsSameCounts}

-- in every order and mode, the items pay the same from all full states with the same counts
abbrev pub IsCounted : LoopValue → List Item → Type 0
IsCounted l items = (n : ℕ) (m : Mode) (s t : FullState) → IsSameCounts l.subsystems s t
    → pay_of l.subsystems n m items s ≡ pay_of l.subsystems n m items t

-- so does whatever is left of items, wherever one stands in them
abbrev pub AreLeftCounted : LoopValue → List Item → Type 0
AreLeftCounted l items = (done left : List Item) → done ++ left ≡ items → IsCounted l left

-- of the schedule of the mission, of that in which one phase counts, and of that up to a phase
pub record SameCountsLaw (l : LoopValue) : Type 0 where
  pub mission : AreLeftCounted l (schedule_of l)
  pub phase : (p : ℕ) → AreLeftCounted l (schedule_of_phase l p)
  pub until : (p : ℕ) → AreLeftCounted l (schedule_until l p)
