-- The error budgets of two small loops, and how wide their intervals may be: worked out apart, by a script.
use Rattle.std.specs.Prelude.{◌≡◌, ℕ, ◌^◌, List, [], ◌∷◌, None}
use Rattle.sil_model.specs.Budget.{beat_loss_of, budget_of, pfd_width_of, pfh_width_of}
use Rattle.sil_model.specs.LoopValue.{LoopValue}
use Rattle.sil_model.specs.WeightTable.{missing_of}
use Rattle.sil_model.specs.declared.parts.InRepair.TheVariants.{Lost}
use Rattle.model_cases.specs.Cases.{two_phases}

-- a channel over a year, with one failure in a million hours, a repair of eight hours and no test
abbrev pub one_year : LoopValue
one_year = record {
  mission = 8760;
  order = 28;
  subsystems = record {
    name = [];
    vote = record { m = 1; n = 1 };
    figures = record { du = 10 ^ 6; dd = 0; beta = 0; beta_d = 0; coverage = 1000; restart_fault = 0; repair = 8 };
    in_repair = Lost;
    test = None;
  } ∷ [];
}

pub record BudgetCases : Type 0 where
  -- the weights of a beat lack 9 from order 17 on, and 13 at order 16
  pub missing : missing_of 28 ≡ 9
  pub missing_at_16 : missing_of 16 ≡ 13
  -- 1096 beats of 819 each, a mean over one phase, and the end
  pub beat_loss : beat_loss_of one_year.subsystems 28 ≡ 819
  pub budget : budget_of one_year 28 ≡ 897_636
  pub pfd_width : pfd_width_of one_year 28 ≡ 3_189_043_697
  pub pfh_width : pfh_width_of one_year 28 ≡ 3192
  pub pfd_width_at_16 : pfd_width_of one_year 16 ≡ 1_148_706_021
  -- two beats of 295 each, one test of a group, means over two phases, and the end
  pub tested_budget : budget_of two_phases 16 ≡ 678
  pub tested_pfd_width : pfd_width_of two_phases 16 ≡ 2_408_741
  pub tested_pfh_width : pfh_width_of two_phases 16 ≡ 843_061
