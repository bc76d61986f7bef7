use Rattle.std.proofs.Common.{◌≡◌, ap, arith}
use Rattle.place_chain.specs.PlaceChain.{PlaceChainValue, AreInOrder, IsGatheredFrom}
use Rattle.place_chain.proofs.Scattered.{weigh-gathered, sum-gathered, sum-taken}
use Rattle.place_chain.proofs.chain.PlaceChain.gather.Goals as goal

pub returns-clause-most : goal.returns-clause-most
returns-clause-most c =
    let r : PlaceChainValue = c.args.self.now in
    let places : c.self.inside.places.items ≡ r.places = ap (λ (v : PlaceChainValue). v.places) c.self.view_is in
    let placed : AreInOrder r.chain.of.subsystems r.places = rw (ap (λ (v : PlaceChainValue). v.chain) c.self.view_is, places) at c.self.invariant.0.placed in
    let taken : IsGatheredFrom r.places c.args.v.now c.take_at.new.small = rw (c.as_slice.ensures.value, places) at c.take_at.ensures in
    sum-taken r.places c.args.v.now c.take_at.new.small placed.rising (λ k h. omega (arith, placed.below k h, c.requires.v)) taken

pub returns-clause-weighed : goal.returns-clause-weighed
returns-clause-weighed c within f =
    let r : PlaceChainValue = c.args.self.now in
    let places : c.self.inside.places.items ≡ r.places = ap (λ (v : PlaceChainValue). v.places) c.self.view_is in
    let placed : AreInOrder r.chain.of.subsystems r.places = rw (ap (λ (v : PlaceChainValue). v.chain) c.self.view_is, places) at c.self.invariant.0.placed in
    let taken : IsGatheredFrom r.places c.args.v.now c.take_at.new.small = rw (c.as_slice.ensures.value, places) at c.take_at.ensures in
    weigh-gathered r.places c.args.v.now c.take_at.new.small placed.rising (λ k h. omega (arith, placed.below k h, c.requires.v)) taken within f

pub returns-clause-kept : goal.returns-clause-kept
returns-clause-kept c within =
    let r : PlaceChainValue = c.args.self.now in
    let places : c.self.inside.places.items ≡ r.places = ap (λ (v : PlaceChainValue). v.places) c.self.view_is in
    let placed : AreInOrder r.chain.of.subsystems r.places = rw (ap (λ (v : PlaceChainValue). v.chain) c.self.view_is, places) at c.self.invariant.0.placed in
    let taken : IsGatheredFrom r.places c.args.v.now c.take_at.new.small = rw (c.as_slice.ensures.value, places) at c.take_at.ensures in
    sum-gathered r.places c.args.v.now c.take_at.new.small placed.rising (λ k h. omega (arith, placed.below k h, c.requires.v)) taken within
