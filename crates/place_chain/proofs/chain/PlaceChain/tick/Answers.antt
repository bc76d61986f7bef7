use Rattle.std.proofs.Common.{◌≡◌, length, vec_len, ap, arith}
use Rattle.place_chain.specs.PlaceChain.{PlaceChainValue}
use Rattle.place_chain.proofs.Ticked.{IsTickAt, ticked}
use Rattle.place_chain.proofs.chain.PlaceChain.tick.Goals as goal

pub returns : goal.returns
returns g c =
    let s = c.self.inside in
    let r = c.args.self.now in
    let chain : s.of.value ≡ r.chain = ap (λ (v : PlaceChainValue). v.chain) c.self.view_is in
    let places : s.places.items ≡ r.places = ap (λ (v : PlaceChainValue). v.places) c.self.view_is in
    let closed : s.closed ≡ r.closed = ap (λ (v : PlaceChainValue). v.closed) c.self.view_is in
    let number : vec_len s.entries ≡ r.entries = ap (λ (v : PlaceChainValue). v.entries) c.self.view_is in
    let from_size : length c.args.from.now ≡ length s.places.items = rw (← places) at c.requires.from in
    let to_long : length c.gather.new.to ≡ length r.places = omega (arith, c.gather.auto.to, c.requires.to) in
    let to_size : length c.gather.new.to ≡ length s.places.items = rw (← places) at to_long in
    let t : IsTickAt r.chain r.places r.closed c.args.from.now c.gather.new.to =
    rw (← chain, ← places, ← closed)
    (ticked s.of.value s.places.items s.closed s.starts.items s.entries.items c.self.invariant.0 c.args.from.now c.gather.new.to from_size to_size c.requires.mass
    (rw (to_size, c.as_slice.ensures.value, c.as_slice-2.ensures.value) at c.gather.ensures.floors)) in
    record {
      floors = t.floors;
      encloses = t.encloses;
      kept = t.kept;
      lack = t.lack;
      steps = omega (arith, c.gather.ensures.steps, ap length c.as_slice.ensures.value, number, s.entries.ok.0);
    }
