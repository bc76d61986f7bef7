use Rattle.std.proofs.Common.{◌-◌, arith, sym, ap, ◌∙◌}
use Rattle.test_calendar.specs.declared.hours.Stop.{Stop}
use Rattle.test_calendar.proofs.Views.{length-phases-view, start-view, start-view-0}
use Rattle.test_calendar.proofs.phases.Plan.start.Goals as goal

pub index-requires : goal.index-requires
index-requires c = omega (arith, length-phases-view c.self.inside.mission c.self.inside.stops.items c.self.inside.tests.items c.args.self.now c.self.view_is)

pub returns-then-i-eq0 : goal.returns-then-i-eq0
returns-then-i-eq0 c d = sym (start-view-0 c.self.inside.mission c.self.inside.stops.items c.self.inside.tests.items c.args.self.now c.self.view_is c.args.i d c.requires c.if-i-eq0.true)

pub returns-else-i-eq0 : goal.returns-else-i-eq0
returns-else-i-eq0 c d =
    c.from.ensures
    ∙ ap (λ (x : Stop). x.hour) c.index.ensures
    ∙ sym (start-view c.self.inside.mission c.self.inside.stops.items c.self.inside.tests.items c.args.self.now c.self.view_is c.args.i d c.index.result.now (c.args.i - 1) c.requires (omega arith))
