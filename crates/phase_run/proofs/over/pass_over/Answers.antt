use Rattle.std.proofs.Common.{◌≡◌, ◌-◌, ◌≤◌, length, slice_index, ◌∙◌, sym, arith}
use Rattle.std.proofs.lemmas.List.{length-take-le}
use Rattle.place_chain.specs.PlaceChain.{PlaceChainValue}
use Rattle.place_chain.specs.Phases.{AreOne}
use Rattle.phase_run.proofs.OverPlaces.{blank, passes_scattered}
use Rattle.phase_run.proofs.over.pass_over.Goals as goal

pub returns-clause-passes : goal.returns-clause-passes
returns-clause-passes g c =
    let r : PlaceChainValue = c.args.stretch.now.places.now in
    let placed = c.size-size.ensures.placed in
    let short : c.size-size.result ≤ length c.args.small_dwell.now = omega (arith, c.size-size.ensures.size, placed.few, c.requires.small_dwell) in
    let zeros : length c.fill.new.self ≡ length r.places =
    omega (arith, c.fill.ensures.len, length-take-le c.size-size.result c.args.small_dwell.now short, c.size-size.ensures.size) in
    let begun : AreOne r c.args.dwell.now c.fill.new.self = record {
      taken = record {
        size = c.requires.dwell;
        gathered = record {
          number = zeros;
          each = λ k h. blank _ c.fill.new.self (c.fill.ensures.after (λ y e. e)) k (omega (arith, h, zeros))
              ∙ sym (c.requires.none (slice_index r.places k) (omega (arith, placed.below k h, c.requires.dwell)));
        };
      };
      within = λ i h o. c.requires.none i h;
    } in
    passes_scattered r placed c.requires.closed (c.args.stretch.now.beats - c.pass_blocks-left.result) c.args.v.now c.gather.new.small c.scatter.new.v c.pass_blocks-left.new.v
    c.args.dwell.now c.fill.new.self c.scatter_dwell.new.dwell c.pass_blocks-left.new.dwell
    (record { taken = record { size = c.requires.v; gathered = c.gather.ensures.gathered }; within = c.requires.within })
    (record { taken = record { size = c.scatter.auto.v ∙ c.requires.v; gathered = c.scatter.ensures.gathered }; within = c.scatter.ensures.within })
    begun
    (record { taken = record { size = c.scatter_dwell.auto.dwell ∙ c.requires.dwell; gathered = c.scatter_dwell.ensures.gathered }; within = c.scatter_dwell.ensures.within })
    c.requires.mass c.requires.none c.pass_blocks-left.ensures.passes
