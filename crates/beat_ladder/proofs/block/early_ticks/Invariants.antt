use Rattle.std.proofs.Common.{◌≡◌, ◌+◌, ◌*◌, ◌≤◌, length}
use Rattle.vector_laws.specs.Block.{IsTicked, IsGathered}
use Rattle.beat_ladder.specs.Losses.{IsStep}
use Rattle.beat_ladder.proofs.block.early_ticks.Given as goal

abbrev pub invariant-loop : goal.invariant-loop
invariant-loop g l = record {
  now : length l.now ≡ length l.fn.now;
  next : length l.next ≡ length l.fn.next;
  ticked : IsTicked (IsStep (g.T.Tick.step l.tick)) (g.T.Tick.loss l.tick) l.fn.now l.now l.counter;
  gathered : IsGathered (IsStep (g.T.Tick.step l.tick)) (g.T.Tick.loss l.tick) l.fn.now l.sums (λ k. 1) l.counter;
  counted : l.steps ≤ l.fn.steps + l.counter * g.T.Tick.products l.tick;
}
