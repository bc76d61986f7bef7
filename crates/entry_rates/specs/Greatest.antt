-- The greatest rate at which a loop goes down: that of all failures together.
use Rattle.std.specs.Prelude.{ℕ, ◌^◌}
use Rattle.sil_fraction.specs.Fraction.{◌≤ℚ◌, ratio}
use Rattle.sil_model.specs.State.{FullState}
use Rattle.sil_model.specs.LoopValue.{LoopValue, IsValid}
use Rattle.sil_model.specs.Pay.{payoff_of}
use Rattle.sil_model.specs.Pay.Mode.{Entry}
use Rattle.sil_model.specs.Budget.{failure_rate_of}
use Rattle.lumped_laws.specs.PayList.{payoff_list}

-- from no state, and so from the count vector of no number, is the loop entered down at a greater rate
pub record EntryLaw (l : LoopValue) : Type 0 where
  pub states : IsValid l → (s : FullState) → payoff_of l.subsystems Entry s ≤ℚ ratio (failure_rate_of l.subsystems) (10 ^ 18)
  pub numbers : IsValid l → (i : ℕ) → payoff_list l.subsystems Entry i ≤ℚ ratio (failure_rate_of l.subsystems) (10 ^ 18)
