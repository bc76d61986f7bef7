-- How large the error budget of a loop can be that exceeds no limit, and how wide its interval of PFDavg.
use Rattle.std.specs.Prelude.{◌≡◌, ℕ, ◌/◌, ◌^◌, ◌<◌, ◌≤◌, None}
use Rattle.sil_model.specs.LoopValue.{LoopValue, IsValid, IsWithin}
use Rattle.sil_model.specs.Sizes.{first_limit_of}
use Rattle.sil_model.specs.Budget.{budget_of, pfd_width_of}

-- a valid loop that exceeds no limit at an order of the series
pub record IsAccepted (l : LoopValue) (order : ℕ) : Type 0 where
  pub valid : IsValid l
  pub in_range : IsWithin 16 40 order
  pub within : first_limit_of l order ≡ None

-- in units of 2^-48 its budget is below 2^33, and in units of 10^-18 its interval of PFDavg is no wider than 1/32,000
pub record BudgetLaw : Type 0 where
  pub budget : (l : LoopValue) (order : ℕ) → IsAccepted l order → budget_of l order < 2 ^ 33
  pub pfd_width : (l : LoopValue) (order : ℕ) → IsAccepted l order → pfd_width_of l order ≤ 10 ^ 18 / 32_000
