use Rattle.std.proofs.Common.{◌≡◌, ap}
use Rattle.std.specs.Prelude.{vec_capacity}
use Rattle.product_chain.specs.Kept.{ChainValue}
use Rattle.product_chain.proofs.Ticked.{holds}
use Rattle.product_chain.proofs.chain.Chain.columns.Goals as goal

pub returns : goal.returns
returns c =
    let s = c.self.inside in
    let of : s.of.value ≡ c.args.self.now.of = ap (λ (v : ChainValue). v.of) c.self.view_is in
    let hours : s.hours ≡ c.args.self.now.hours = ap (λ (v : ChainValue). v.hours) c.self.view_is in
    let beats : s.beats ≡ c.args.self.now.beats = ap (λ (v : ChainValue). v.beats) c.self.view_is in
    record {
      valid = rw (← of) c.self.invariant.valid;
      few = rw (← of) c.self.invariant.few;
      timed = rw (← of, ← hours, ← beats) c.self.invariant.timed;
      weights =
          rw (← of, ← hours, ← beats, c.as_slice.ensures.value, c.as_slice-2.ensures.value)
          (holds s.of.value s.hours s.beats s.rates.items s.moves.items s.move_starts.items s.stays.items s.starts.items s.entries.items
          (vec_capacity s.entries) c.self.invariant);
    }
