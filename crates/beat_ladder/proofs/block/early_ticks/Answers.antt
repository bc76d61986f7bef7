use Rattle.std.proofs.Common.{ℕ, ◌*◌, length, sum, refl, ap, ◌∙◌, arith}
use Rattle.std.proofs.Math.Nat.{mul-le-mul_right}
use Rattle.std.proofs.lemmas.List.{get_or-replicate}
use Rattle.vector_laws.proofs.Masses.{sum-constant}
use Rattle.vector_laws.proofs.Ticks.{ticked_none, ticked_more, gathered_none, gathered_more}
use Rattle.beat_ladder.specs.Losses.{IsStep}
use Rattle.beat_ladder.proofs.block.early_ticks.Goals as goal

pub loop-init : goal.loop-init
loop-init g c = record {
  now = refl;
  next = refl;
  ticked = ticked_none (IsStep (g.T.Tick.step c.args.tick.now)) (g.T.Tick.loss c.args.tick.now) c.args.now.now;
  gathered = gathered_none (IsStep (g.T.Tick.step c.args.tick.now)) (g.T.Tick.loss c.args.tick.now) c.args.now.now c.fill.new.self (λ k. 1)
      (λ k h. rw (c.fill.ensures.after (λ y e. e)) (get_or-replicate (length c.args.sums.now) k 0 0 (omega (arith, c.fill.ensures.len))));
  counted = omega arith;
}

pub add_all-requires-clause-room : goal.add_all-requires-clause-room
add_all-requires-clause-room g c =
    omega (
      arith,
      c.loop.invariant.gathered.most,
      ap (λ s. sum c.args.now.now * s) (sum-constant c.loop.counter 1),
      mul-le-mul_right c.loop.counter c.requires.mass,
      c.loop.invariant.ticked.most,
    )

pub loop-preserved : goal.loop-preserved
loop-preserved g c =
    let B = IsStep (g.T.Tick.step c.args.tick.now) in
    let loss : ℕ = g.T.Tick.loss c.args.tick.now in
    record {
      now = c.step.auto.now ∙ c.loop.invariant.now;
      next = c.step.auto.next ∙ c.loop.invariant.next;
      ticked = ticked_more B loss c.args.now.now c.loop.now c.step.new.now c.loop.counter c.loop.invariant.ticked c.step.ensures.weighed
          c.step.ensures.kept c.step.ensures.lack;
      gathered = gathered_more B loss c.args.now.now c.loop.now c.loop.sums c.add_all.new.sums (λ k. 1) c.loop.counter
          c.add_all.ensures c.loop.invariant.ticked c.loop.invariant.gathered;
      counted = omega (arith, c.loop.invariant.counted, c.step.ensures.steps);
    }
