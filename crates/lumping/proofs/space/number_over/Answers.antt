use Rattle.std.proofs.Common.{◌<◌, arith, refl}
use Rattle.std.proofs.Math.Nat.{mul-le-mul_left}
use Rattle.sil_model.specs.Sizes.{states_over}
use Rattle.lumping.proofs.Turns.{number_of-end, number-turn, number-fits, number-below}
use Rattle.lumping.proofs.space.number_over.Goals as goal

pub loop-g-init : goal.loop-g-init
loop-g-init c = number_of-end c.args.groups.now _

pub overflow_mul-number : goal.overflow_mul-number
overflow_mul-number c =
    let below : c.loop-g.number < states_over c.args.groups.now = number-below c.args.groups.now c.args.counts.now c.requires.counts c.loop-g.g c.loop-g.number c.loop-g.invariant in
    omega (arith, below, c.requires.groups.limit, mul-le-mul_left c.loop-g.number c.shares.ensures.few)

pub overflow_add-number : goal.overflow_add-number
overflow_add-number c =
    omega (
      arith,
      c.requires.groups.limit,
      number-fits c.args.groups.now c.args.counts.now c.requires.counts c.loop-g.g c.loop-g.number c.shares.result c.number_in_group.result _ _ c.loop-g-test.true c.loop-g.auto.g refl c.loop-g.invariant c.shares.ensures.shares c.number_in_group.ensures,
    )

pub loop-g-preserved : goal.loop-g-preserved
loop-g-preserved c =
    number-turn c.args.groups.now c.args.counts.now c.requires.counts c.loop-g.g c.loop-g.number c.shares.result c.number_in_group.result _ _ c.loop-g-test.true c.loop-g.auto.g refl c.loop-g.invariant c.shares.ensures.shares c.number_in_group.ensures
