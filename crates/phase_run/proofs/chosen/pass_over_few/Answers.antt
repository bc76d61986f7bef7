use Rattle.std.proofs.Common.{◌+◌, ◌*◌, ◌≤◌, length, refl, ap, arith}
use Rattle.std.proofs.Math.Nat.{mul-le-mul_left}
use Rattle.product_chain.specs.Kept.{ChainValue}
use Rattle.uniformise.specs.Beat.{beat_products}
use Rattle.place_chain.specs.Sweeps.{choice_products}
use Rattle.phase_run.specs.Passes.{beat_products_in_blocks}
use Rattle.phase_run.proofs.chosen.pass_over_few.Goals as goal

pub returns-then-beats-lt-LEAST_BEATS-clause-steps : goal.returns-then-beats-lt-LEAST_BEATS-clause-steps
returns-then-beats-lt-LEAST_BEATS-clause-steps g c =
    let within : beat_products_in_blocks c.args.room.now.reached.entries (length c.args.room.now.reached.places) ≤ beat_products c.args.chain.now.of.subsystems 16 =
    omega (
      arith,
      c.products_of_beat-of_reached.ensures.value,
      rw (ap (λ (v : ChainValue). v.of) c.requires.reached) at c.products_of_beat-of_reached.ensures.within,
    ) in
    omega (arith, mul-le-mul_left c.args.beats within)

pub returns-then-not-choice_fits-clause-steps : goal.returns-then-not-choice_fits-clause-steps
returns-then-not-choice_fits-clause-steps g c =
    let within : beat_products_in_blocks c.args.room.now.reached.entries (length c.args.room.now.reached.places) ≤ beat_products c.args.chain.now.of.subsystems 16 =
    omega (
      arith,
      c.products_of_beat-of_reached.ensures.value,
      rw (ap (λ (v : ChainValue). v.of) c.requires.reached) at c.products_of_beat-of_reached.ensures.within,
    ) in
    omega (arith, mul-le-mul_left c.args.beats within)

pub returns-then-not-may_be_tried-clause-steps : goal.returns-then-not-may_be_tried-clause-steps
returns-then-not-may_be_tried-clause-steps g c =
    let fits : choice_products c.args.chain.now.of.subsystems
    + c.args.beats * beat_products_in_blocks c.args.room.now.reached.entries (length c.args.room.now.reached.places)
    ≤ c.args.beats * beat_products c.args.chain.now.of.subsystems 16 =
    rw c.products_of_beat-of_reached.ensures.value at (c.if-not-choice_fits.ensures refl) in
    omega (arith, c.choose.ensures.steps, fits)

pub returns-clause-steps : goal.returns-clause-steps
returns-clause-steps g c =
    let fits : choice_products c.args.chain.now.of.subsystems
    + c.args.beats * (beat_products_in_blocks c.choose.new.self.entries (length c.choose.new.self.places)
    + beat_products_in_blocks c.args.room.now.reached.entries (length c.args.room.now.reached.places))
    ≤ c.args.beats * beat_products c.args.chain.now.of.subsystems 16 = c.if-not-may_be_tried.ensures refl in
    omega (arith, c.choose.ensures.steps, c.pass_over_chosen.ensures.steps, fits)
