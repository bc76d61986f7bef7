use Rattle.std.proofs.Common.{refl, arith}
use Rattle.loop_value.proofs.Places.{sides-none, sides-room, sides-more, sides-down, sides-up}
use Rattle.loop_value.proofs.sides.sides_of_means.Goals as goal

pub loop-i-init : goal.loop-i-init
loop-i-init c = sides-none c.args.up.now c.args.means.now _ _ c.none-sides.ensures.down c.none-sides.ensures.up

pub with-sides-requires : goal.with-sides-requires
with-sides-requires c =
    sides-room c.args.up.now c.args.means.now c.loop-i.i c.loop-i.sides.down c.loop-i.sides.up c.loop-i.invariant (omega arith) c.requires.mass _ refl

pub loop-i-preserved : goal.loop-i-preserved
loop-i-preserved c =
    sides-more c.args.up.now c.args.means.now c.loop-i.i c.loop-i.sides.down c.loop-i.sides.up c.loop-i.invariant _ _ _ refl c.with-sides.ensures.down c.with-sides.ensures.up

pub returns-clause-down : goal.returns-clause-down
returns-clause-down c = sides-down c.args.up.now c.args.means.now c.loop-i.i _ _ c.loop-i.invariant (omega arith)

pub returns-clause-up : goal.returns-clause-up
returns-clause-up c = sides-up c.args.up.now c.args.means.now c.loop-i.i _ _ c.loop-i.invariant (omega arith)
