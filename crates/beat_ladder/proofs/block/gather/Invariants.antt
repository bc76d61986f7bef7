use Rattle.std.proofs.Common.{◌≡◌, ◌+◌, ◌*◌, ◌≤◌, length}
use Rattle.vector_laws.specs.Block.{IsTicked, IsGathered}
use Rattle.beat_ladder.specs.Powers.{power_of}
use Rattle.beat_ladder.specs.Losses.{IsStep}
use Rattle.beat_ladder.proofs.Tails.{tail}
use Rattle.beat_ladder.proofs.block.gather.Given as goal

abbrev pub invariant-loop-k : goal.invariant-loop-k
invariant-loop-k g l = record {
  now : length l.now ≡ length l.fn.now;
  next : length l.next ≡ length l.fn.next;
  ticked : IsTicked (IsStep (g.T.Tick.step l.tick)) (g.T.Tick.loss l.tick) l.fn.now l.now (l.rung.low + l.k);
  ends : IsGathered (IsStep (g.T.Tick.step l.tick)) (g.T.Tick.loss l.tick) l.fn.now l.ends (power_of l.rung.exponent) (l.rung.low + l.k);
  stays : IsGathered (IsStep (g.T.Tick.step l.tick)) (g.T.Tick.loss l.tick) l.fn.now l.stays
      (tail l.rung.exponent l.rung.low l.rung.numbers.items l.rung.tails.items l.rung.held l.rung.tailed) (l.rung.low + l.k);
  counted : l.steps ≤ l.fn.steps + (l.rung.low + l.k) * g.T.Tick.products l.tick + (2 * l.k + l.rung.low) * g.T.Tick.size l.tick;
}
