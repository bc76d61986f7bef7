use Rattle.std.proofs.Common.{◌≡◌, ◌+◌, ◌*◌, ◌^◌, ◌≤◌}
use Rattle.beat_ladder.specs.Losses.{IsStep}
use Rattle.phase_run.specs.Passes.{PassesBy, beat_loss_in_blocks, beat_products_in_blocks}
use Rattle.phase_run.proofs.blocks.pass_rung.Given as goal

abbrev pub invariant-loop : goal.invariant-loop
invariant-loop g l = record {
  room : l.room ≡ l.fn.room;
  passes : PassesBy (IsStep (g.T.Tick.step l.tick)) 16 (beat_loss_in_blocks (g.T.Tick.loss l.tick) (g.T.Tick.size l.tick)) (l.counter * 2 ^ l.rung.exponent)
      l.fn.v l.v l.fn.dwell l.dwell;
  counted : l.steps ≤ l.fn.steps + l.counter * 2 ^ l.rung.exponent * beat_products_in_blocks (g.T.Tick.products l.tick) (g.T.Tick.size l.tick);
}
