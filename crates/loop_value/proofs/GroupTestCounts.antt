-- As many group tests stand in an hour as groups are tested in it.
use Rattle.std.proofs.Common.{◌≡◌, ℕ, suc, ◌+◌, true, false, List, [], ◌∷◌, ◌++◌, length, cond, refl, ap, arith}
use Rattle.std.specs.Prelude.{Option, Some, None, filter}
use Rattle.std.proofs.lemmas.List.{length-append}
use Rattle.sil_model.specs.Budget.{tested_among, tested_from, group_tests_in}
use Rattle.sil_model.specs.Calendar.{is_tested, is_full}
use Rattle.sil_model.specs.LoopValue.{LoopValue, groups_by_test}
use Rattle.sil_model.specs.declared.parts.Group.{Group}
use Rattle.sil_model.specs.declared.parts.Subsystem.{Subsystem}
use Rattle.sil_model.specs.declared.parts.TestPlan.{TestPlan}
use Rattle.test_calendar.specs.GroupTests.{tests_of_groups, group_tests_from, group_tests_at}
use Rattle.test_calendar.specs.declared.groups.GroupTest.{GroupTest}

module _ (mission t : ℕ) where
  of_groups : (o : Option TestPlan) (g : ℕ) (xs : List Group) → length (tests_of_groups mission t o g xs) ≡ tested_among mission t o xs
  of_groups None g xs = refl
  of_groups (Some p) g [] = refl
  of_groups (Some p) g (x ∷ xs) =
      let fs : List Group = filter (λ (y : Group). is_tested mission t p y.first_channel) xs in
      let rest : List GroupTest = tests_of_groups mission t (Some p) (suc g) xs in
      let one : GroupTest = record { group = g; full = is_full mission t p x.first_channel } in
      elim (is_tested mission t p x.first_channel) as (λ b. length (cond b (one ∷ []) [] ++ rest) ≡ length (cond b (x ∷ fs) fs)) [
        | true ↦ ap suc (of_groups (Some p) (suc g) xs)
        | false ↦ of_groups (Some p) (suc g) xs
      ]

  of_subsystems : (s g : ℕ) (us : List Subsystem) → length (group_tests_from mission t s g us) ≡ tested_from mission t s us
  of_subsystems s g [] = refl
  of_subsystems s g (u ∷ us) =
      let xs : List Group = groups_by_test s u.vote.n u.test in
      omega (
        arith,
        length-append (tests_of_groups mission t u.test g xs) (group_tests_from mission t (suc s) (g + length xs) us),
        of_groups u.test g xs,
        of_subsystems (suc s) (g + length xs) us,
      )

pub group_tests-count : (l : LoopValue) (t : ℕ) → length (group_tests_at l t) ≡ group_tests_in l t
unfolding group_tests_at group_tests_in
group_tests-count l t = of_subsystems l.mission t 0 0 l.subsystems
