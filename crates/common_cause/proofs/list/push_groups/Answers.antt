use Rattle.std.proofs.Common.{◌≡◌, ◌+◌, ◌-◌, ◌++◌, arith, refl}
use Rattle.common_cause.specs.LumpEvents.{groups_events}
use Rattle.common_cause.proofs.Listed.{group-next, groups-end}
use Rattle.common_cause.proofs.list.push_groups.Goals as goal

pub loop-g-init : goal.loop-g-init
loop-g-init c = let e : c.args.first + c.args.groups - c.args.first ≡ c.args.groups = omega arith in rw e refl

pub loop-g-preserved : goal.loop-g-preserved
loop-g-preserved c =
    group-next c.args.u.now c.args.i (c.args.events.now.items ++ groups_events c.args.u.now c.args.i c.args.first c.args.groups) c.loop-g.events.items
    c.push_group.new.events.items c.loop-g.g
    (c.args.first + c.args.groups - c.loop-g.g) (c.args.first + c.args.groups - (c.loop-g.g + 1)) (omega arith) c.loop-g.invariant c.in_ok-push_group.ensures

pub returns : goal.returns
returns c =
    let e : c.args.first + c.args.groups - c.loop-g.g ≡ 0 = omega arith in
    groups-end c.args.u.now c.args.i (c.args.events.now.items ++ groups_events c.args.u.now c.args.i c.args.first c.args.groups) c.loop-g.events.items
    c.loop-g.g (rw e at c.loop-g.invariant)
