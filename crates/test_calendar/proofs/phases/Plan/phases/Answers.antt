use Rattle.std.proofs.Common.{arith}
use Rattle.test_calendar.proofs.Views.{length-phases-view}
use Rattle.test_calendar.proofs.phases.Plan.phases.Goals as goal

pub returns-clause-phases : goal.returns-clause-phases
returns-clause-phases c = omega (arith, c.len.ensures, length-phases-view c.self.inside.mission c.self.inside.stops.items c.self.inside.tests.items c.args.self.now c.self.view_is)
