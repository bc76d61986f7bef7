use Rattle.std.proofs.Common.{◌≡◌, length, arith, ap, ◌∙◌}
use Rattle.std.specs.Prelude.{vec_capacity}
use Rattle.sil_model.specs.Sizes.{states_of}
use Rattle.common_cause.proofs.Listed.{length-events}
use Rattle.product_chain.specs.Kept.{ChainValue}
use Rattle.product_chain.proofs.Bounds.{weighted, entries-few}
use Rattle.product_chain.proofs.Ticked.{IsTick, ticked}
use Rattle.product_chain.proofs.chain.Chain.tick.Goals as goal

pub gather-requires-clause-columns : goal.gather-requires-clause-columns
gather-requires-clause-columns g c =
    let s = c.self.inside in
    let of : s.of.value ≡ c.args.self.now.of = ap (λ (v : ChainValue). v.of) c.self.view_is in
    let size : length c.args.to.now ≡ states_of s.of.value.subsystems = rw (← of) at c.requires.to in
    let from_size : length c.args.from.now ≡ states_of s.of.value.subsystems = rw (← of) at c.requires.from in
    rw (c.as_slice.ensures.value, c.as_slice-2.ensures.value, size, from_size)
    (weighted s.of.value s.hours s.beats s.rates.items s.moves.items s.move_starts.items s.stays.items s.starts.items s.entries.items
    (vec_capacity s.entries) c.self.invariant)

pub returns : goal.returns
returns g c =
    let s = c.self.inside in
    let of : s.of.value ≡ c.args.self.now.of = ap (λ (v : ChainValue). v.of) c.self.view_is in
    let hours : s.hours ≡ c.args.self.now.hours = ap (λ (v : ChainValue). v.hours) c.self.view_is in
    let beats : s.beats ≡ c.args.self.now.beats = ap (λ (v : ChainValue). v.beats) c.self.view_is in
    let size : length c.gather.new.to ≡ states_of s.of.value.subsystems = rw (← of) at (c.gather.auto.to ∙ c.requires.to) in
    let from_size : length c.args.from.now ≡ states_of s.of.value.subsystems = rw (← of) at c.requires.from in
    let t : IsTick c.args.self.now.of.subsystems c.args.self.now.hours c.args.self.now.beats c.args.from.now c.gather.new.to =
    rw (← of, ← hours, ← beats)
    (ticked s.of.value s.hours s.beats s.rates.items s.moves.items s.move_starts.items s.stays.items s.starts.items s.entries.items
    (vec_capacity s.entries) c.self.invariant c.args.from.now c.gather.new.to from_size size c.requires.mass
    (rw (size, c.as_slice.ensures.value, c.as_slice-2.ensures.value) at c.gather.ensures.floors)) in
    let few = rw (length-events s.of.value.subsystems)
    at (entries-few s.of.value s.hours s.beats s.rates.items s.moves.items s.move_starts.items s.stays.items s.starts.items s.entries.items
    (vec_capacity s.entries) c.self.invariant) in
    record {
      floors = t.floors;
      encloses = t.encloses;
      kept = t.kept;
      lack = omega (arith, t.lack);
      steps = rw (← of) (omega (arith, few, c.gather.ensures.steps, ap length c.as_slice.ensures.value));
    }
