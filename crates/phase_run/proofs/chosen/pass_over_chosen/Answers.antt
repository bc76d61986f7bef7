use Rattle.std.proofs.Common.{◌≡◌, ◌-◌, ◌≤◌, length, sum, slice_index, ◌∙◌, sym, arith}
use Rattle.std.proofs.Math.Nat.{mul-le-mul_left}
use Rattle.std.proofs.lemmas.List.{length-take-le}
use Rattle.vector_laws.proofs.Masses.{sum-none}
use Rattle.beat_ladder.specs.Losses.{IsStep}
use Rattle.place_chain.specs.PlaceChain.{PlaceChainValue, step_of_places, tick_loss_of}
use Rattle.place_chain.specs.Phases.{AreOne}
use Rattle.phase_run.specs.Passes.{PassesBy, beat_loss_in_blocks, block_beat_loss}
use Rattle.phase_run.proofs.OverPlaces.{blank, passes_taken}
use Rattle.phase_run.proofs.chosen.pass_over_chosen.Goals as goal

pub loses_little-requires-clause-dwelt : goal.loses_little-requires-clause-dwelt
loses_little-requires-clause-dwelt g c =
    let none : sum c.fill.new.self ≡ 0 = sum-none c.fill.new.self (blank _ c.fill.new.self (c.fill.ensures.after (λ y e. e))) in
    let left : c.args.stretch.now.beats - c.pass_blocks.result ≡ c.args.stretch.now.beats = omega (arith, c.pass_blocks.ensures.all c.requires.rungs) in
    omega (
      arith,
      none,
      rw left at c.pass_blocks.ensures.passes.dwell_kept,
      c.gather.ensures.most,
      c.requires.mass,
      mul-le-mul_left c.args.stretch.now.beats c.gather.ensures.most,
      mul-le-mul_left c.args.stretch.now.beats c.requires.mass,
    )

pub returns-clause-passes : goal.returns-clause-passes
returns-clause-passes g c done =
    let r : PlaceChainValue = c.args.stretch.now.places.now in
    let placed = c.size-size.ensures.placed in
    let short : c.size-size.result ≤ length c.args.small_dwell.now = omega (arith, c.size-size.ensures.size, placed.few, c.requires.small_dwell) in
    let zeros : length c.fill.new.self ≡ length r.places =
    omega (arith, c.fill.ensures.len, length-take-le c.size-size.result c.args.small_dwell.now short, c.size-size.ensures.size) in
    let begun : AreOne r c.args.dwell.now c.fill.new.self = record {
      taken = record {
        size = c.requires.dwell;
        gathered = record {
          number = zeros;
          each = λ k h. blank _ c.fill.new.self (c.fill.ensures.after (λ y e. e)) k (omega (arith, h, zeros))
              ∙ sym (c.requires.none (slice_index r.places k) (omega (arith, placed.below k h, c.requires.dwell)));
        };
      };
      within = λ i h o. c.requires.none i h;
    } in
    let left : c.args.stretch.now.beats - c.pass_blocks.result ≡ c.args.stretch.now.beats = omega (arith, c.pass_blocks.ensures.all c.requires.rungs) in
    let loss : c.loss_of_beat-loss.result ≡ block_beat_loss r.chain.of.subsystems =
    omega (arith, c.loss_of_beat-loss.ensures.value, c.requires.events, c.requires.v) in
    let passed : PassesBy (IsStep (step_of_places r)) 16 (beat_loss_in_blocks (tick_loss_of r) (length r.places)) c.args.stretch.now.beats
    c.gather.new.small c.pass_blocks.new.v c.fill.new.self c.pass_blocks.new.dwell = rw left at c.pass_blocks.ensures.passes in
    passes_taken r placed c.args.stretch.now.beats (beat_loss_in_blocks (tick_loss_of r) (length r.places)) c.args.v.now c.gather.new.small c.scatter.new.v c.pass_blocks.new.v
    c.args.dwell.now c.fill.new.self c.scatter_dwell.new.dwell c.pass_blocks.new.dwell
    (record { size = c.requires.v; gathered = c.gather.ensures.gathered })
    (record { taken = record { size = c.scatter.auto.v ∙ c.requires.v; gathered = c.scatter.ensures.gathered }; within = c.scatter.ensures.within })
    begun
    (record { taken = record { size = c.scatter_dwell.auto.dwell ∙ c.requires.dwell; gathered = c.scatter_dwell.ensures.gathered }; within = c.scatter_dwell.ensures.within })
    c.requires.mass c.requires.none passed c.gather.ensures.most (rw loss at (c.if-not-loses_little.ensures done))
