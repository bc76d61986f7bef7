use Rattle.std.proofs.Common.{arith}
use Rattle.dense_power.proofs.Digits.{place_below}
use Rattle.phase_way.proofs.choice.digits_of.Goals as goal

pub returns-clause-least : goal.returns-clause-least
returns-clause-least c = λ digits room.
    omega (arith, c.from.ensures, place_below c.args.beats c.ilog2.result digits c.ilog2.ensures.power_le room)
