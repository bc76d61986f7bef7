use Rattle.std.proofs.Common.{◌≡◌, List, [], length, get_or, inl, inr, arith}
use Rattle.std.specs.Prelude.{map}
use Rattle.std.proofs.lemmas.Bool.{cases_lt}
use Rattle.std.proofs.lemmas.List.{get_or_past, length-map}
use Rattle.sil_model.specs.Calendar.{test_hours_of}
use Rattle.test_calendar.specs.GroupTests.{group_tests_at}
use Rattle.test_calendar.specs.declared.groups.GroupTest.{GroupTest}
use Rattle.test_matrix.proofs.HourTests.{after_phase}
use Rattle.tick_runs.proofs.tests.hours.apply_after.Goals as goal

pub apply-requires : goal.apply-requires
apply-requires g c =
    let planned : List (List GroupTest) = map (group_tests_at c.args.l.now) (test_hours_of c.args.l.now) in
    let is : c.tests_after.result.now ≡ get_or planned c.args.phase [] = rw c.in_ok-plan.ensures.tests at c.tests_after.ensures.tests in
    elim (cases_lt c.args.phase (length (test_hours_of c.args.l.now))) [
      | inl h ↦ rw is (after_phase c.args.l.now c.args.phase h).exist
      | inr h ↦ rw (is, get_or_past planned c.args.phase [] (omega (arith, length-map (test_hours_of c.args.l.now) (group_tests_at c.args.l.now))))
          (λ k d l. absurd (omega arith))
    ]
