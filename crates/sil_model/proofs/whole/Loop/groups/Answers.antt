use Rattle.std.proofs.Common.{◌≡◌, length, arith, zero-add, ap, ◌∙◌}
use Rattle.sil_model.specs.LoopValue.{groups_of}
use Rattle.sil_model.proofs.Groups.{length-next, groups-within, none-left}
use Rattle.sil_model.proofs.whole.Loop.groups.Goals as goal

pub loop-u-init : goal.loop-u-init
unfolding groups_of
loop-u-init c = zero-add _

pub overflow_add-count : goal.overflow_add-count
overflow_add-count c =
    let within = groups-within _ c.self.invariant in
    let e = ap (λ us. length (groups_of us)) c.deref-u-items.ensures.value in
    omega (
      arith,
      within.below,
      e,
      c.loop-u.invariant,
      length-next c.deref-u-items.result.now c.loop-u.u-index c.u-item.result c.loop-u-test.true c.u-item.is,
      c.groups-count.ensures.groups c.loop-u.u-index,
    )

pub loop-u-preserved : goal.loop-u-preserved
loop-u-preserved c =
    omega (
      arith,
      c.loop-u.invariant,
      length-next c.deref-u-items.result.now c.loop-u.u-index c.u-item.result c.loop-u-test.true c.u-item.is,
      c.groups-count.ensures.groups c.loop-u.u-index,
    )

-- all groups are counted after the last subsystem
all_counted : (c : goal.After-loop-u) → c.loop-u.count ≡ length (groups_of c.self.inside.subsystems.items)
all_counted c =
    let e = ap (λ us. length (groups_of us)) c.deref-u-items.ensures.value in
    omega (arith, c.loop-u.invariant, none-left c.deref-u-items.result.now c.loop-u.u-index c.loop-u-test.false, e)

pub returns-clause-groups : goal.returns-clause-groups
returns-clause-groups c = all_counted c ∙ ap (λ l. length (groups_of l.subsystems)) c.self.view_is

pub returns-clause-some : goal.returns-clause-some
returns-clause-some c = omega (arith, all_counted c, (groups-within _ c.self.invariant).above)

pub returns-clause-few : goal.returns-clause-few
returns-clause-few c = omega (arith, all_counted c, (groups-within _ c.self.invariant).below)
