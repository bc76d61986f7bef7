use Rattle.std.proofs.Common.{◌≤◌, ◌^◌, sum, arith}
use Rattle.beat_ladder.proofs.Rungs.{held_mass}
use Rattle.beat_ladder.proofs.rung.Rung.new.Goals as goal

pub tails_of-requires : goal.tails_of-requires
tails_of-requires c = record { mass = rw c.deref.ensures.value (held_mass c.args.exponent c.args.low c.args.numbers.items c.requires.held) }

pub total-flat-requires : goal.total-flat-requires
total-flat-requires c =
    let m : sum c.args.numbers.items ≤ 2 ^ 48 = held_mass c.args.exponent c.args.low c.args.numbers.items c.requires.held in
    rw c.deref-2.ensures.value (omega arith)
