use Rattle.std.proofs.Common.{◌≡◌, ℕ, ◌+◌, ◌*◌, ◌^◌, ◌<◌, ◌≤◌, length, refl, ◌∙◌, arith}
use Rattle.std.proofs.Math.Nat.{mul-le-mul_right}
use Rattle.std.proofs.lemmas.Grind.{get_or_default_zero}
use Rattle.beat_ladder.specs.Losses.{IsStep}
use Rattle.phase_run.specs.Passes.{beat_loss_in_blocks, beat_products_in_blocks}
use Rattle.phase_run.proofs.Passes.{passes_none, passes_more, passes_block, block_products_within, counted_more}
use Rattle.phase_run.proofs.blocks.pass_rung.Goals as goal

pub loop-init : goal.loop-init
loop-init g c =
    let none : 0 * 2 ^ c.args.rung.now.exponent ≡ 0 = omega arith in
    record {
      room = refl;
      passes = rw none (passes_none (IsStep (g.T.Tick.step c.args.tick.now)) 16 (beat_loss_in_blocks (g.T.Tick.loss c.args.tick.now) (g.T.Tick.size c.args.tick.now)) c.args.v.now c.args.dwell.now);
      counted = omega arith;
    }

pub pass-requires-clause-room : goal.pass-requires-clause-room
pass-requires-clause-room g c = λ k d h.
    let inside : k < length c.args.dwell.now = omega (arith, c.loop.invariant.passes.size) in
    let few : c.loop.counter ≤ c.args.times = omega arith in
    omega (
      arith,
      get_or_default_zero c.loop.dwell k d h,
      (c.loop.invariant.passes.grows k inside).1,
      c.requires.room k inside,
      mul-le-mul_right (2 ^ c.args.rung.now.exponent) few,
    )

pub loop-preserved : goal.loop-preserved
loop-preserved g c =
    let m : ℕ = 2 ^ c.args.rung.now.exponent in
    let next : (c.loop.counter + 1) * 2 ^ c.args.rung.now.exponent ≡ c.loop.counter * 2 ^ c.args.rung.now.exponent + 2 ^ c.args.rung.now.exponent = omega arith in
    let steps : c.pass.new.steps ≤ c.loop.steps + 2 ^ c.args.rung.now.exponent * beat_products_in_blocks (g.T.Tick.products c.args.tick.now) (g.T.Tick.size c.args.tick.now) =
    omega (arith, c.pass.ensures.steps, block_products_within (g.T.Tick.products c.args.tick.now) (g.T.Tick.size c.args.tick.now) c.args.rung.now.exponent) in
    record {
      room = c.pass.ensures.size ∙ c.loop.invariant.room;
      passes = rw next (passes_more (IsStep (g.T.Tick.step c.args.tick.now)) 16 (beat_loss_in_blocks (g.T.Tick.loss c.args.tick.now) (g.T.Tick.size c.args.tick.now)) (c.loop.counter * m) m c.args.v.now c.loop.v c.pass.new.v c.args.dwell.now
          c.loop.dwell c.pass.new.dwell c.loop.invariant.passes
          (passes_block (IsStep (g.T.Tick.step c.args.tick.now)) (g.T.Tick.loss c.args.tick.now) (g.T.Tick.size c.args.tick.now) c.args.rung.now.exponent c.loop.v c.pass.new.v c.loop.dwell c.pass.new.dwell (omega arith) c.pass.ensures.after
          c.pass.ensures.dwelt c.pass.ensures.kept c.pass.ensures.lack c.pass.ensures.dwell_kept c.pass.ensures.dwell_lack c.pass.ensures.grows));
      counted = rw next (counted_more c.args.steps.now c.pass.new.steps c.loop.steps (c.loop.counter * m) m (beat_products_in_blocks (g.T.Tick.products c.args.tick.now) (g.T.Tick.size c.args.tick.now)) c.loop.invariant.counted steps);
    }
