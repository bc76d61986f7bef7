use Rattle.std.proofs.Common.{◌≡◌, ap}
use Rattle.product_chain.specs.Kept.{ChainValue}
use Rattle.product_chain.proofs.chain.Chain.beats.Goals as goal

pub returns-clause-timed : goal.returns-clause-timed
returns-clause-timed c =
    let of : c.self.inside.of.value ≡ c.args.self.now.of = ap (λ (v : ChainValue). v.of) c.self.view_is in
    let hours : c.self.inside.hours ≡ c.args.self.now.hours = ap (λ (v : ChainValue). v.hours) c.self.view_is in
    let beats : c.self.inside.beats ≡ c.args.self.now.beats = ap (λ (v : ChainValue). v.beats) c.self.view_is in
    rw (← of, ← hours, ← beats) c.self.invariant.timed
