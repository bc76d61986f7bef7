use Rattle.std.proofs.Common.{◌≡◌, ◌+◌, ◌-◌, ◌*◌, ◌≤◌}
use Rattle.beat_ladder.specs.Losses.{IsStep}
use Rattle.phase_run.specs.Passes.{PassesBy, beat_loss_in_blocks, beat_products_in_blocks}
use Rattle.phase_run.proofs.blocks.pass_blocks.Given as goal

abbrev pub invariant-loop-exponent : goal.invariant-loop-exponent
invariant-loop-exponent g l = record {
  room : l.room ≡ l.fn.room;
  left : l.left ≤ l.beats;
  passes : PassesBy (IsStep (g.T.Tick.step l.tick)) 16 (beat_loss_in_blocks (g.T.Tick.loss l.tick) (g.T.Tick.size l.tick)) (l.beats - l.left)
      l.fn.v l.v l.fn.dwell l.dwell;
  counted : l.steps ≤ l.fn.steps + (l.beats - l.left) * beat_products_in_blocks (g.T.Tick.products l.tick) (g.T.Tick.size l.tick);
}
