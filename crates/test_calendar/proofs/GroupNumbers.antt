-- The group tests of an hour are of groups of the loop.
use Rattle.std.proofs.Common.{◌≡◌, ℕ, suc, ◌+◌, ◌<◌, ◌≤◌, List, [], ◌∷◌, length, arith, length-append}
use Rattle.std.specs.Prelude.{All, Bool, true, false, cond, Option, Some, None}
use Rattle.std.proofs.lemmas.List.Elements.{All-nil, All-cons, All-append}
use Rattle.sil_model.specs.declared.parts.Group.{Group}
use Rattle.sil_model.specs.declared.parts.Subsystem.{Subsystem}
use Rattle.sil_model.specs.declared.parts.TestPlan.{TestPlan}
use Rattle.sil_model.specs.LoopValue.{LoopValue, groups_of, groups_from, groups_by_test}
use Rattle.sil_model.specs.Calendar.{is_tested, is_full}
use Rattle.test_calendar.specs.declared.groups.GroupTest.{GroupTest}
use Rattle.test_calendar.specs.GroupTests.{tests_of_groups, group_tests_from, group_tests_at}

-- a group's number is one of those from a first to below a last
pub record IsNumber (low high : ℕ) (x : GroupTest) : Type 0 where
  pub above : low ≤ x.group
  pub below : x.group < high

wider : (a b a' b' : ℕ) (xs : List GroupTest) → a' ≤ a → b ≤ b' → All (IsNumber a b) xs → All (IsNumber a' b') xs
wider a b a' b' xs h k all = λ i d l. let n = all i d l in record { above = omega (arith, n.above); below = omega (arith, n.below) }

module _ (mission t : ℕ) where
  perhaps : (b full : Bool) (g n : ℕ) → g < n → All (IsNumber g n) (cond b (record { group = g; full = full } ∷ []) [])
  perhaps true full g n h = All-cons (IsNumber g n) _ [] (record { above = omega arith; below = h }) (All-nil (IsNumber g n))
  perhaps false full g n h = All-nil (IsNumber g n)

  numbers_by : (o : Option TestPlan) (g : ℕ) (xs : List Group) → All (IsNumber g (g + length xs)) (tests_of_groups mission t o g xs)
  numbers_by None g xs = All-nil (IsNumber g (g + length xs))
  numbers_by (Some p) g [] = All-nil (IsNumber g (g + 0))
  numbers_by (Some p) g (x ∷ xs) =
      All-append (IsNumber g (g + suc (length xs))) _ _ (perhaps (is_tested mission t p x.first_channel) (is_full mission t p x.first_channel) g (g + suc (length xs)) (omega arith))
      (wider (suc g) (suc g + length xs) g (g + suc (length xs)) _ (omega arith) (omega arith) (numbers_by (Some p) (suc g) xs))

  numbers_from : (s g : ℕ) (us : List Subsystem) → All (IsNumber g (g + length (groups_from s us))) (group_tests_from mission t s g us)
  numbers_from s g [] = All-nil (IsNumber g (g + 0))
  numbers_from s g (u ∷ us) =
      let xs : List Group = groups_by_test s u.vote.n u.test in
      let n : length (groups_from s (u ∷ us)) ≡ length xs + length (groups_from (suc s) us) = length-append xs (groups_from (suc s) us) in
      let all = g + length (groups_from s (u ∷ us)) in
      All-append (IsNumber g all) _ _
      (wider g (g + length xs) g all _ (omega arith) (omega (arith, n)) (numbers_by u.test g xs))
      (wider (g + length xs) (g + length xs + length (groups_from (suc s) us)) g all _ (omega arith) (omega (arith, n)) (numbers_from (suc s) (g + length xs) us))

-- the group tests of an hour are of groups of the loop
pub group_tests_inside : (l : LoopValue) (t : ℕ) → All (λ (x : GroupTest). x.group < length (groups_of l.subsystems)) (group_tests_at l t)
unfolding group_tests_at groups_of
group_tests_inside l t = λ i d h. let n = (numbers_from l.mission t 0 0 l.subsystems i d h).below in omega (arith, n)
