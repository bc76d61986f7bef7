use Rattle.std.proofs.Common.{arith}
use Rattle.series_weights.proofs.Sums.{weight_zero}
use Rattle.series_weights.proofs.Weights.terms.Goals as goal

pub returns-clause-rest : goal.returns-clause-rest
returns-clause-rest c = λ k h. weight_zero k (omega (arith, c.self.invariant.least))
