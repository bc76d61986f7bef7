use Rattle.std.proofs.Common.{◌≡◌, ◌+◌, ◌-◌, ◌*◌, ◌/◌, ◌%◌, ◌^◌, ◌<◌, length, refl, ◌∙◌, arith}
use Rattle.beat_ladder.specs.Losses.{IsStep}
use Rattle.phase_run.specs.Passes.{beat_loss_in_blocks, beat_products_in_blocks}
use Rattle.phase_run.proofs.Passes.{passes_none, passes_more, counted_more, used}
use Rattle.phase_run.proofs.blocks.pass_blocks.Goals as goal

pub loop-exponent-init : goal.loop-exponent-init
loop-exponent-init g c =
    let none : c.args.beats - c.args.beats ≡ 0 = omega arith in
    record {
      room = refl;
      left = omega arith;
      passes = rw none (passes_none (IsStep (g.T.Tick.step c.args.tick.now)) 16 (beat_loss_in_blocks (g.T.Tick.loss c.args.tick.now) (g.T.Tick.size c.args.tick.now)) c.args.v.now c.args.dwell.now);
      counted = omega arith;
    }

pub pass_rung-requires-clause-room : goal.pass_rung-requires-clause-room
pass_rung-requires-clause-room g c = λ k h.
    let inside : k < length c.args.dwell.now = omega (arith, c.loop-exponent.invariant.passes.size) in
    let beats : c.from-beats_of_rung.result ≡ 2 ^ c.rung-rung.result.now.exponent = c.from-beats_of_rung.ensures ∙ c.beats.ensures.value in
    omega (
      arith,
      (c.loop-exponent.invariant.passes.grows k inside).1,
      c.requires.room k inside,
      c.loop-exponent.invariant.left,
      used c.loop-exponent.left c.from-beats_of_rung.result (2 ^ c.rung-rung.result.now.exponent) beats,
    )

pub loop-exponent-preserved : goal.loop-exponent-preserved
loop-exponent-preserved g c =
    let beats : c.from-beats_of_rung.result ≡ 2 ^ c.rung-rung.result.now.exponent = c.from-beats_of_rung.ensures ∙ c.beats.ensures.value in
    let all : c.loop-exponent.left / c.from-beats_of_rung.result * 2 ^ c.rung-rung.result.now.exponent + c.loop-exponent.left % c.from-beats_of_rung.result
    ≡ c.loop-exponent.left = used c.loop-exponent.left c.from-beats_of_rung.result (2 ^ c.rung-rung.result.now.exponent) beats in
    let next : c.args.beats - c.loop-exponent.left % c.from-beats_of_rung.result
    ≡ (c.args.beats - c.loop-exponent.left) + c.loop-exponent.left / c.from-beats_of_rung.result * 2 ^ c.rung-rung.result.now.exponent =
    omega (arith, all, c.loop-exponent.invariant.left) in
    record {
      room = c.pass_rung.ensures.size ∙ c.loop-exponent.invariant.room;
      left = omega (arith, all, c.loop-exponent.invariant.left);
      passes = rw next (passes_more (IsStep (g.T.Tick.step c.args.tick.now)) 16 (beat_loss_in_blocks (g.T.Tick.loss c.args.tick.now) (g.T.Tick.size c.args.tick.now)) (c.args.beats - c.loop-exponent.left)
          (c.loop-exponent.left / c.from-beats_of_rung.result * 2 ^ c.rung-rung.result.now.exponent) c.args.v.now c.loop-exponent.v c.pass_rung.new.v
          c.args.dwell.now c.loop-exponent.dwell c.pass_rung.new.dwell c.loop-exponent.invariant.passes c.pass_rung.ensures.passes);
      counted = rw next (counted_more c.args.steps.now c.pass_rung.new.steps c.loop-exponent.steps (c.args.beats - c.loop-exponent.left)
          (c.loop-exponent.left / c.from-beats_of_rung.result * 2 ^ c.rung-rung.result.now.exponent)
          (beat_products_in_blocks (g.T.Tick.products c.args.tick.now) (g.T.Tick.size c.args.tick.now)) c.loop-exponent.invariant.counted c.pass_rung.ensures.steps);
    }

pub returns-clause-passes : goal.returns-clause-passes
returns-clause-passes g c =
    let zero : c.rung-beat.result.now.exponent ≡ 0 = c.rung-beat.ensures.which in
    let one : c.loop-exponent.left * 2 ^ c.rung-beat.result.now.exponent ≡ c.loop-exponent.left = rw zero (omega arith) in
    let all : c.args.beats - 0 ≡ (c.args.beats - c.loop-exponent.left) + c.loop-exponent.left * 2 ^ c.rung-beat.result.now.exponent =
    omega (arith, one, c.loop-exponent.invariant.left) in
    rw all (passes_more (IsStep (g.T.Tick.step c.args.tick.now)) 16 (beat_loss_in_blocks (g.T.Tick.loss c.args.tick.now) (g.T.Tick.size c.args.tick.now)) (c.args.beats - c.loop-exponent.left)
    (c.loop-exponent.left * 2 ^ c.rung-beat.result.now.exponent) c.args.v.now c.loop-exponent.v c.pass_rung-2.new.v
    c.args.dwell.now c.loop-exponent.dwell c.pass_rung-2.new.dwell c.loop-exponent.invariant.passes c.pass_rung-2.ensures.passes)

pub returns-clause-steps : goal.returns-clause-steps
returns-clause-steps g c =
    let zero : c.rung-beat.result.now.exponent ≡ 0 = c.rung-beat.ensures.which in
    let one : c.loop-exponent.left * 2 ^ c.rung-beat.result.now.exponent ≡ c.loop-exponent.left = rw zero (omega arith) in
    let all : c.args.beats - 0 ≡ (c.args.beats - c.loop-exponent.left) + c.loop-exponent.left * 2 ^ c.rung-beat.result.now.exponent =
    omega (arith, one, c.loop-exponent.invariant.left) in
    rw all (counted_more c.args.steps.now c.pass_rung-2.new.steps c.loop-exponent.steps (c.args.beats - c.loop-exponent.left)
    (c.loop-exponent.left * 2 ^ c.rung-beat.result.now.exponent)
    (beat_products_in_blocks (g.T.Tick.products c.args.tick.now) (g.T.Tick.size c.args.tick.now)) c.loop-exponent.invariant.counted c.pass_rung-2.ensures.steps)
