use Rattle.std.proofs.Common.{arith, ap, sym, ◌∙◌, append-nil, Vec, Global}
use Rattle.test_calendar.specs.declared.groups.GroupTest.{GroupTest}
use Rattle.test_calendar.specs.Plans.{test_by}
use Rattle.test_calendar.proofs.Stops.{asked_more}
use Rattle.test_calendar.proofs.hours.add_tests.Goals as goal
use Rattle.test_calendar.proofs.hours.add_tests.Goals.{in-Some+in_ok-push, in_default}

pub loop-plan-preserved : goal.loop-plan-preserved
loop-plan-preserved c =
    asked_more (test_by c.args.hour) c.args.plans.now c.loop-plan.plan-index c.plan-item.result c.args.tests.now.items c.loop-plan.tests.items c.match-test_at.tests.items c.test_at.result
    (omega arith) c.plan-item.is c.test_at.ensures c.loop-plan.invariant
    (elim c.match-test_at.branch [
      | in-Some+in_ok-push w ↦ rw w.in-Some.is (ap (λ (v : Vec GroupTest Global). v.items) w.tests-is ∙ w.in_ok-push.ensures.items)
      | in_default w ↦ rw w.in_default.is (ap (λ (v : Vec GroupTest Global). v.items) w.tests-is ∙ sym (append-nil c.loop-plan.tests.items))
    ])
