use Rattle.std.proofs.Common.{arith, ap, length}
use Rattle.test_calendar.proofs.Views.{length-phases-view}
use Rattle.test_calendar.proofs.phases.Plan.tests_after.Goals as goal

pub returns-in-Some-clause-last : goal.returns-in-Some-clause-last
returns-in-Some-clause-last c h =
    absurd (omega (arith, c.in-Some.ensures.lookup.3.0, ap length c.deref.ensures.value, length-phases-view c.self.inside.mission c.self.inside.stops.items c.self.inside.tests.items c.args.self.now c.self.view_is))
