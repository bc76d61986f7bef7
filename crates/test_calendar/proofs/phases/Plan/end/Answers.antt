use Rattle.std.proofs.Common.{◌<◌, ◌≤◌, arith, ap, ◌∙◌, get_or, length, List}
use Rattle.test_calendar.specs.declared.hours.Stop.{Stop}
use Rattle.test_calendar.proofs.Views.{end-view, end-view-last}
use Rattle.test_calendar.proofs.phases.Plan.end.Goals as goal

pub returns-in-Some-clause-end : goal.returns-in-Some-clause-end
returns-in-Some-clause-end c d =
    let s = c.in-Some.stop.now in
    let found = c.in-Some.ensures.lookup in
    let h : c.args.i < length c.self.inside.stops.items = omega (arith, found.3.0, ap length c.deref.ensures.value) in
    c.from.ensures
    ∙ ap (λ (x : Stop). x.hour) (found.1 ∙ ap (λ (xs : List Stop). get_or xs c.args.i s) c.deref.ensures.value)
    ∙ end-view c.self.inside.mission c.self.inside.stops.items c.self.inside.tests.items c.args.self.now c.self.view_is c.args.i c.self.invariant d s h

pub returns-in-None-clause-end : goal.returns-in-None-clause-end
returns-in-None-clause-end c d =
    let h : length c.self.inside.stops.items ≤ c.args.i = omega (arith, c.in-None.ensures.lookup.3, ap length c.deref.ensures.value) in
    c.from-in-None.ensures ∙ end-view-last c.self.inside.mission c.self.inside.stops.items c.self.inside.tests.items c.args.self.now c.self.view_is c.args.i c.self.invariant d h c.requires
