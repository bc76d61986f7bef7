use Rattle.std.proofs.Common.{◌<◌, ◌≤◌, length, arith, append_assoc}
use Rattle.sil_model.proofs.Groups.{by_test-few}
use Rattle.test_calendar.proofs.InRange.{in_range}
use Rattle.test_calendar.proofs.GroupPlans.{repeats-next}
use Rattle.test_calendar.proofs.groups.group_plans.Goals as goal

pub add_plans-requires-clause-in_range : goal.add_plans-requires-clause-in_range
add_plans-requires-clause-in_range c = in_range c.args.l.now c.len-i-end.ensures.valid c.loop-i.i c.subsystem.result.now (omega arith) c.subsystem.ensures

pub loop-i-preserved : goal.loop-i-preserved
loop-i-preserved c =
    let u = c.subsystem.result.now in
    let h : c.loop-i.i < length c.args.l.now.subsystems = omega arith in
    let w = in_range c.args.l.now c.len-i-end.ensures.valid c.loop-i.i u h c.subsystem.ensures in
    let n : 1 ≤ u.vote.n = omega (arith, w.vote.some, w.vote.suffice) in
    record {
      plans = rw (c.in_ok-group.ensures.plans c.loop-i.i, c.in_ok-group.ensures.next c.loop-i.i, append_assoc)
          (rw (repeats-next c.args.l.now.subsystems c.loop-i.i c.loop-i.group u h (c.subsystem.ensures u)) at c.loop-i.invariant.plans);
      few = omega (arith, c.in_ok-group.ensures.next 0, by_test-few 0 u.vote.n u.test n, w.vote.few, c.loop-i.invariant.few);
    }
