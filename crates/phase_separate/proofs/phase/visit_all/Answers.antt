use Rattle.std.proofs.Common.{◌≡◌, ℕ, ◌+◌, ◌-◌, ◌*◌, ◌/◌, ◌^◌, ◌<◌, arith}
use Rattle.phase_separate.specs.Products.{along_products, power_products}
use Rattle.phase_separate.proofs.Digits.{one_digit_more, first_digit, all_digits, some_digits, taken_by_digits, one_place_less}
use Rattle.phase_separate.proofs.Separate.{separate}
use Rattle.phase_separate.proofs.Visits.{first_visited}
use Rattle.phase_separate.proofs.phase.visit_all.Goals as goal

pub loop-place-init : goal.loop-place-init
loop-place-init g c =
    let one : c.args.beats / 2 ^ c.ilog2-place.result ≡ 1 =
    first_digit c.args.beats c.ilog2-place.result c.ilog2-place.ensures.power_le c.ilog2-place.ensures.next_power_gt in
    record {
      places = omega arith;
      subsystems = rw one c.requires.subsystems;
      visited = rw (one, c.copy_from_slice.ensures.after)
          (first_visited c.args.chain.now (separate c.args.chain.now c.requires.valid c.requires.timed) c.args.start.now);
      buffers = c.requires.buffers;
      steps = omega arith;
    }

pub double-requires-clause-some : goal.double-requires-clause-some
double-requires-clause-some g c =
    some_digits c.args.beats c.ilog2-place.result (c.loop-place.place - 1 + 1) c.ilog2-place.ensures.power_le (omega (arith, c.loop-place.invariant.places))

pub add_beat-requires-clause-some : goal.add_beat-requires-clause-some
add_beat-requires-clause-some g c =
    let some : 0 < c.args.beats / 2 ^ (c.loop-place.place - 1 + 1) =
    some_digits c.args.beats c.ilog2-place.result (c.loop-place.place - 1 + 1) c.ilog2-place.ensures.power_le (omega (arith, c.loop-place.invariant.places)) in
    omega (arith, some)

pub loop-place-preserved-then-beats-place-eq1 : goal.loop-place-preserved-then-beats-place-eq1
loop-place-preserved-then-beats-place-eq1 g c =
    let place = c.loop-place.place in
    let A : ℕ = along_products c.args.chain.now.of.subsystems + power_products c.args.chain.now.of.subsystems in
    let more : c.args.beats / 2 ^ (place - 1) ≡ 2 * (c.args.beats / 2 ^ (place - 1 + 1)) + 1 =
    omega (arith, one_digit_more c.args.beats (place - 1), c.if-beats-place-eq1.true) in
    record {
      places = omega (arith, c.loop-place.invariant.places);
      subsystems = rw more c.add_beat.ensures.subsystems;
      visited = rw more c.add_beat.ensures.visited;
      buffers = c.add_beat.ensures.buffers;
      steps = omega (arith, one_place_less place A c.loop-place-test.true, c.add_beat.ensures.steps, c.double.ensures.steps, c.loop-place.invariant.steps);
    }

pub loop-place-preserved : goal.loop-place-preserved
loop-place-preserved g c =
    let place = c.loop-place.place in
    let A : ℕ = along_products c.args.chain.now.of.subsystems + power_products c.args.chain.now.of.subsystems in
    let more : c.args.beats / 2 ^ (place - 1) ≡ c.args.beats / 2 ^ (place - 1 + 1) + c.args.beats / 2 ^ (place - 1 + 1) =
    omega (arith, one_digit_more c.args.beats (place - 1), c.if-beats-place-eq1.false) in
    record {
      places = omega (arith, c.loop-place.invariant.places);
      subsystems = rw more c.double.ensures.subsystems;
      visited = rw more c.double.ensures.visited;
      buffers = c.double.ensures.buffers;
      steps = omega (arith, one_place_less place A c.loop-place-test.true, c.double.ensures.steps, c.loop-place.invariant.steps);
    }

pub returns-clause-visited : goal.returns-clause-visited
returns-clause-visited g c =
    let none : c.loop-place.place ≡ 0 = omega (arith, c.loop-place-test.false) in
    rw (none, all_digits c.args.beats) at c.loop-place.invariant.visited

pub returns-clause-steps : goal.returns-clause-steps
returns-clause-steps g c = λ digits most.
    taken_by_digits c.args.beats c.ilog2-place.result digits c.args.steps.now c.loop-place.steps
    (along_products c.args.chain.now.of.subsystems + power_products c.args.chain.now.of.subsystems) c.ilog2-place.ensures.power_le most
    (omega (arith, c.loop-place.invariant.steps))
