use Rattle.std.proofs.Common.{◌≡◌, true, subst, ◌+◌, ◌*◌}
use Rattle.test_calendar.specs.Repeats.{Repeats}
use Rattle.test_calendar.specs.Plans.{repeats_at}
use Rattle.test_calendar.proofs.Steps.{tested_after}
use Rattle.test_calendar.proofs.groups.GroupPlan.next_test.Goals as goal

pub returns-else-from-self-clause-tested : goal.returns-else-from-self-clause-tested
returns-else-from-self-clause-tested c =
    let P : Repeats → Type 0 = λ r. repeats_at (c.self.inside.first + c.div_ceil.result * c.self.inside.every) r ≡ true in
    subst P c.self.view_is (tested_after c.self.inside.first c.self.inside.every c.div_ceil.result c.self.invariant.every)
