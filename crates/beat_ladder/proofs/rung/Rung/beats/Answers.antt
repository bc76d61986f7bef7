use Rattle.std.proofs.Common.{arith}
use Rattle.std.proofs.lemmas.Nat.{pow_pos}
use Rattle.beat_ladder.proofs.Rungs.{beats-le}
use Rattle.beat_ladder.proofs.rung.Rung.beats.Goals as goal

pub returns-clause-small : goal.returns-clause-small
returns-clause-small c = omega (arith, beats-le c.args.self.now.exponent c.args.self.now.few)

pub returns-clause-some : goal.returns-clause-some
returns-clause-some c = omega (arith, pow_pos c.args.self.now.exponent, beats-le c.args.self.now.exponent c.args.self.now.few)
