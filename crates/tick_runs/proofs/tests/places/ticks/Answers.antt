use Rattle.std.proofs.Common.{◌≡◌, ap, ◌∙◌}
use Rattle.place_chain.specs.PlaceChain.{PlaceChainValue}
use Rattle.tick_runs.proofs.tests.places.ticks.Goals as goal

pub loop-init : goal.loop-init
loop-init g c =
    let places : c.reached.inside.places.items ≡ c.reach.new.self.places = ap (λ (v : PlaceChainValue). v.places) c.reached.view_is in
    record {
      size = c.in_ok-v.ensures.size;
      mass = c.in_ok-v.ensures.mass;
      within = rw places (rw c.deref.ensures.value at c.reach.ensures.support);
    }

pub tick_both-requires-clause-within : goal.tick_both-requires-clause-within
tick_both-requires-clause-within g c =
    let places : c.reached.inside.places.items ≡ c.reach.new.self.places = ap (λ (v : PlaceChainValue). v.places) c.reached.view_is in
    rw places at c.loop.invariant.within

pub loop-preserved : goal.loop-preserved
loop-preserved g c =
    let places : c.reached.inside.places.items ≡ c.reach.new.self.places = ap (λ (v : PlaceChainValue). v.places) c.reached.view_is in
    record {
      size = c.tick_both.ensures.size ∙ c.loop.invariant.size;
      mass = c.tick_both.ensures.mass;
      within = rw places c.tick_both.ensures.within;
    }
