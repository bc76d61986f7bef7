use Rattle.std.proofs.Common.{ℕ, ◌+◌, ◌<◌, ◌≤◌, length, refl, ◌∙◌, arith}
use Rattle.std.proofs.lemmas.Grind.{get_or_default_zero}
use Rattle.sil_model.specs.Budget.{beat_loss_of}
use Rattle.uniformise.specs.Beat.{IsStep}
use Rattle.phase_run.proofs.Passes.{passes_none, passes_more, passes_beat}
use Rattle.phase_run.proofs.pass_beats.Goals as goal

pub loop-init : goal.loop-init
loop-init g c = record {
  work = refl;
  passes = passes_none (IsStep c.args.chain.now) c.args.weights.now (beat_loss_of c.args.chain.now.of.subsystems c.args.weights.now) c.args.v.now c.args.dwell.now;
  counted = omega arith;
}

pub beat-requires-clause-room : goal.beat-requires-clause-room
beat-requires-clause-room g c = λ k d h.
    let inside : k < length c.args.dwell.now = omega (arith, c.loop.invariant.passes.size) in
    let few : c.loop.counter + 1 ≤ c.args.beats = omega arith in
    omega (arith, get_or_default_zero c.loop.dwell k d h, (c.loop.invariant.passes.grows k inside).1, c.requires.room k inside, few)

pub loop-preserved : goal.loop-preserved
loop-preserved g c =
    let order : ℕ = c.args.weights.now in
    let us = c.args.chain.now.of.subsystems in
    record {
      work = c.beat.ensures.size ∙ c.loop.invariant.work;
      passes = passes_more (IsStep c.args.chain.now) order (beat_loss_of us order) c.loop.counter 1 c.args.v.now c.loop.v c.beat.new.v c.args.dwell.now c.loop.dwell
          c.beat.new.dwell c.loop.invariant.passes
          (passes_beat c.args.chain.now order c.loop.v c.beat.new.v c.loop.dwell c.beat.new.dwell (omega arith) c.beat.ensures.encloses
          c.beat.ensures.dwells c.beat.ensures.kept c.beat.ensures.lack c.beat.ensures.dwell_kept c.beat.ensures.dwell_lack c.beat.ensures.grows);
      counted = omega (arith, c.beat.ensures.steps, c.loop.invariant.counted);
    }
