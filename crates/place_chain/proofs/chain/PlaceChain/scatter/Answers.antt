use Rattle.std.proofs.Common.{◌≡◌, sym, ap, arith}
use Rattle.place_chain.specs.PlaceChain.{PlaceChainValue, AreInOrder, IsGatheredFrom, IsWithin}
use Rattle.place_chain.proofs.Scattered.{weigh-gathered, sum-gathered}
use Rattle.place_chain.proofs.chain.PlaceChain.scatter.Goals as goal

pub returns-clause-weighed : goal.returns-clause-weighed
returns-clause-weighed c f =
    let s = c.self.inside in
    let r = c.args.self.now in
    let chain : s.of.value ≡ r.chain = ap (λ (v : PlaceChainValue). v.chain) c.self.view_is in
    let places : s.places.items ≡ r.places = ap (λ (v : PlaceChainValue). v.places) c.self.view_is in
    let placed : AreInOrder r.chain.of.subsystems r.places = rw (chain, places) at c.self.invariant.0.placed in
    let is : IsGatheredFrom r.places c.put_at.new.v c.args.small.now = rw (c.as_slice.ensures.value, places) at c.put_at.ensures.gathered in
    let within : IsWithin r.places c.put_at.new.v = rw (c.as_slice.ensures.value, places) at c.put_at.ensures.within in
    sym (weigh-gathered r.places c.put_at.new.v c.args.small.now placed.rising (λ k h. omega (arith, placed.below k h, c.requires.v, c.put_at.auto.v)) is within f)

pub returns-clause-kept : goal.returns-clause-kept
returns-clause-kept c =
    let s = c.self.inside in
    let r = c.args.self.now in
    let chain : s.of.value ≡ r.chain = ap (λ (v : PlaceChainValue). v.chain) c.self.view_is in
    let places : s.places.items ≡ r.places = ap (λ (v : PlaceChainValue). v.places) c.self.view_is in
    let placed : AreInOrder r.chain.of.subsystems r.places = rw (chain, places) at c.self.invariant.0.placed in
    let is : IsGatheredFrom r.places c.put_at.new.v c.args.small.now = rw (c.as_slice.ensures.value, places) at c.put_at.ensures.gathered in
    let within : IsWithin r.places c.put_at.new.v = rw (c.as_slice.ensures.value, places) at c.put_at.ensures.within in
    sym (sum-gathered r.places c.put_at.new.v c.args.small.now placed.rising (λ k h. omega (arith, placed.below k h, c.requires.v, c.put_at.auto.v)) is within)
