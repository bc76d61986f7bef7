use Rattle.std.proofs.Common.{◌≤◌, ◌++◌, arith, sym, ap, ◌∙◌, append_assoc, append-nil}
use Rattle.sil_model.specs.LoopValue.{groups_by_test}
use Rattle.sil_model.proofs.Groups.{by_test-few}
use Rattle.test_calendar.specs.Plans.{repeats_by_test}
use Rattle.test_calendar.proofs.GroupPlans.{repeats_along, repeats-along, along-next, along-end}
use Rattle.test_calendar.proofs.groups.add_plans.Goals as goal

pub overflow_add-group : goal.overflow_add-group
overflow_add-group c =
    let h : 1 ≤ c.args.u.now.vote.n = omega (arith, c.requires.in_range.vote.some, c.requires.in_range.vote.suffice) in
    omega (arith, c.groups-count.ensures.groups 0, by_test-few 0 c.args.u.now.vote.n c.args.u.now.test h, c.requires.in_range.vote.few)

pub group_plan-requires-clause-channel : goal.group_plan-requires-clause-channel
group_plan-requires-clause-channel c =
    let h : 1 ≤ c.args.u.now.vote.n = omega (arith, c.requires.in_range.vote.some, c.requires.in_range.vote.suffice) in
    omega (arith, c.groups-count.ensures.groups 0, by_test-few 0 c.args.u.now.vote.n c.args.u.now.test h, c.requires.in_range.vote.few)

pub loop-channel-preserved : goal.loop-channel-preserved
loop-channel-preserved c =
    rw (c.in_ok-push.ensures.items, c.group_plan.ensures 0 0, append_assoc)
    (rw (along-next c.in-Some.plan c.args.group c.loop-channel.channel c.groups-count.result c.loop-channel-test.true) at c.loop-channel.invariant)

pub overflow_add-result-2 : goal.overflow_add-result-2
overflow_add-result-2 c =
    let h : 1 ≤ c.args.u.now.vote.n = omega (arith, c.requires.in_range.vote.some, c.requires.in_range.vote.suffice) in
    omega (arith, c.groups-count.ensures.groups 0, by_test-few 0 c.args.u.now.vote.n c.args.u.now.test h, c.requires.in_range.vote.few)

pub returns-clause-plans : goal.returns-clause-plans
returns-clause-plans c i =
    let p = c.in-Some.plan in
    let g = c.args.group in
    let n = c.args.u.now.vote.n in
    let before = c.args.plans.now.items in
    sym (append-nil c.loop-channel.plans.items)
    ∙ ap (λ rs. c.loop-channel.plans.items ++ rs) (sym (along-end p g c.loop-channel.channel c.groups-count.result c.loop-channel-test.false))
    ∙ c.loop-channel.invariant
    ∙ ap (λ k. before ++ repeats_along p g 0 k) (rw c.in-Some.is at (c.groups-count.ensures.groups i))
    ∙ ap (λ rs. before ++ rs) (sym (repeats-along p g i n))
    ∙ ap (λ o. before ++ repeats_by_test o g (groups_by_test i n o)) (sym c.in-Some.is)
