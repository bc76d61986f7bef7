-- The error budgets compute.
use Rattle.std.proofs.Common.{◌≡◌, ℕ, zero, suc, List, [], ◌∷◌, length, refl, ap}
use Rattle.std.specs.Prelude.{filter, not, sum_by}
use Rattle.sil_fraction.specs.Sum.{sum_below}
use Rattle.sil_model.specs.LoopValue.{groups_of}
use Rattle.sil_model.specs.Calendar.{Phase, is_empty, upto, tests_at, test_hours_of, phases_of, phases_from, beats_of, beat_rate_of}
use Rattle.sil_model.specs.Sizes.{states_of, all_beats_of}
use Rattle.sil_model.specs.Budget.{failure_rate_of, lumped_events_of, group_tests_in, group_tests_of, test_hour_count_of, beat_loss_of, test_loss_of, budget_of, pfd_width_of, pfh_width_of}
use Rattle.sil_model.specs.WeightTable.{weight_of, missing_of}
use Rattle.model_cases.specs.Budgets.{BudgetCases, one_year}
use Rattle.model_cases.specs.Cases.{two_phases}

-- a loop without tests has no test hour, and so one phase
none_tested : (i n : ℕ) → filter (λ t. not (is_empty (tests_at one_year t))) (upto i n) ≡ []
unfolding tests_at
none_tested i zero = refl
none_tested i (suc n) = none_tested (suc i) n

no_hours : test_hours_of one_year ≡ []
unfolding test_hours_of
no_hours = none_tested 0 8760

one_phase : phases_of one_year ≡ record { start = 0; hours = 8760 } ∷ []
unfolding phases_of
one_phase = ap (λ (hours : List ℕ). phases_from 8760 0 hours) no_hours

beats : all_beats_of one_year ≡ 1096
unfolding all_beats_of beats_of beat_rate_of
beats = ap (λ (ps : List Phase). sum_by (λ p. beats_of one_year.subsystems p.hours) ps) one_phase

no_tests : group_tests_of one_year ≡ 0
unfolding group_tests_of
no_tests = ap (λ (hours : List ℕ). sum_by (group_tests_in one_year) hours) no_hours

no_test_hours : test_hour_count_of one_year ≡ 0
unfolding test_hour_count_of
no_test_hours = ap (λ (hours : List ℕ). length hours) no_hours

phases : length (phases_of one_year) ≡ 1
phases = ap (λ (ps : List Phase). length ps) one_phase

missing : missing_of 28 ≡ 9
unfolding missing_of sum_below weight_of
missing = refl

missing_at_16 : missing_of 16 ≡ 13
unfolding missing_of sum_below weight_of
missing_at_16 = refl

beat_loss : beat_loss_of one_year.subsystems 28 ≡ 819
unfolding beat_loss_of lumped_events_of groups_of states_of
beat_loss = rw missing refl

beat_loss_at_16 : beat_loss_of one_year.subsystems 16 ≡ 295
unfolding beat_loss_of lumped_events_of groups_of states_of
beat_loss_at_16 = rw missing_at_16 refl

budget : budget_of one_year 28 ≡ 897_636
unfolding budget_of states_of groups_of test_loss_of
budget = rw (beats, beat_loss, no_tests, phases) refl

budget_at_16 : budget_of one_year 16 ≡ 323_332
unfolding budget_of states_of groups_of test_loss_of
budget_at_16 = rw (beats, beat_loss_at_16, no_tests, phases) refl

pfd_width : pfd_width_of one_year 28 ≡ 3_189_043_697
unfolding pfd_width_of
pfd_width = rw budget refl

pfh_width : pfh_width_of one_year 28 ≡ 3192
unfolding pfh_width_of failure_rate_of
pfh_width = rw (budget, no_test_hours) refl

pfd_width_at_16 : pfd_width_of one_year 16 ≡ 1_148_706_021
unfolding pfd_width_of
pfd_width_at_16 = rw budget_at_16 refl

tested_budget : budget_of two_phases 16 ≡ 678
unfolding budget_of beat_loss_of test_loss_of lumped_events_of group_tests_of group_tests_in all_beats_of beats_of beat_rate_of phases_of test_hours_of tests_at states_of groups_of missing_of sum_below weight_of
tested_budget = refl

tested_pfd_width : pfd_width_of two_phases 16 ≡ 2_408_741
unfolding pfd_width_of
tested_pfd_width = rw tested_budget refl

tested_pfh_width : pfh_width_of two_phases 16 ≡ 843_061
unfolding pfh_width_of failure_rate_of test_hour_count_of test_hours_of tests_at
tested_pfh_width = rw tested_budget refl

pub budgets : BudgetCases
budgets = record {
  missing = missing;
  missing_at_16 = missing_at_16;
  beat_loss = beat_loss;
  budget = budget;
  pfd_width = pfd_width;
  pfh_width = pfh_width;
  pfd_width_at_16 = pfd_width_at_16;
  tested_budget = tested_budget;
  tested_pfd_width = tested_pfd_width;
  tested_pfh_width = tested_pfh_width;
}
