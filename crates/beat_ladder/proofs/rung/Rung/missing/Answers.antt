use Rattle.std.proofs.Common.{arith}
use Rattle.beat_ladder.proofs.Rungs.{held_mass}
use Rattle.beat_ladder.proofs.rung.Rung.missing.Goals as goal

pub overflow_sub-result : goal.overflow_sub-result
overflow_sub-result c = omega (arith, c.args.self.now.flat_is, held_mass c.args.self.now.exponent c.args.self.now.low c.args.self.now.numbers.items c.args.self.now.held)

pub returns : goal.returns
returns c = omega (arith, c.args.self.now.flat_is, held_mass c.args.self.now.exponent c.args.self.now.low c.args.self.now.numbers.items c.args.self.now.held)
