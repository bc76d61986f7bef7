use Rattle.std.proofs.Common.{◌≡◌, ℕ, ◌+◌, ◌-◌, ◌^◌, ◌≤◌, List, length, sum, refl, arith}
use Rattle.std.proofs.lemmas.List.{get_or-replicate}
use Rattle.sil_model.specs.Series.{Values}
use Rattle.sil_model.specs.Sizes.{states_of}
use Rattle.sil_model.specs.Budget.{lumped_events_of}
use Rattle.sil_model.specs.WeightTable.{weight_of, mean_weight_of}
use Rattle.series_weights.proofs.Sums.{sum_weights_le, means_within}
use Rattle.vector_laws.specs.Laws.{IsSumWith}
use Rattle.vector_laws.proofs.Ticks.{ticked_none, ticked_more, gathered_none, gathered_more, gathered_further}
use Rattle.uniformise.specs.Beat.{IsStep, tick_loss}
use Rattle.uniformise.proofs.Beats.{mean_zero, room, all_products}
use Rattle.uniformise.proofs.workspace.gather.Goals as goal

pub loop-k-init : goal.loop-k-init
loop-k-init g c =
    let B : (Values ℕ → Values ℕ) → Type 0 = IsStep c.args.chain.now in
    let loss : ℕ = tick_loss c.args.chain.now.of.subsystems in
    record {
      now = refl;
      next = refl;
      ticked = ticked_none B loss c.args.now.now.items;
      ends = gathered_none B loss c.args.now.now.items c.fill.new.self weight_of
          (λ k h. rw (c.fill.ensures.after (λ y e. e)) (get_or-replicate (length c.args.ends.now) k 0 0 (omega (arith, c.fill.ensures.len))));
      stays = gathered_none B loss c.args.now.now.items c.fill-2.new.self (mean_weight_of c.args.weights.now)
          (λ k h. rw (c.fill-2.ensures.after (λ y e. e)) (get_or-replicate (length c.args.stays.now) k 0 0 (omega (arith, c.fill-2.ensures.len))));
      counted = omega arith;
    }

pub add_products-requires-clause-room : goal.add_products-requires-clause-room
add_products-requires-clause-room g c =
    let now : sum c.deref.result.now ≤ 2 ^ 48 = rw c.deref.ensures.value (omega (arith, c.loop-k.invariant.ticked.most, c.requires.mass)) in
    room (IsStep c.args.chain.now) (tick_loss c.args.chain.now.of.subsystems) c.args.now.now.items c.loop-k.ends weight_of c.loop-k.k c.w.result
    (sum c.deref.result.now) c.requires.mass c.loop-k.invariant.ends
    (sum_weights_le c.loop-k.k (omega arith)) c.w.ensures.small now

pub add_products-requires-in-loop-k-clause-room : goal.add_products-requires-in-loop-k-clause-room
add_products-requires-in-loop-k-clause-room g c =
    let now : sum c.deref-in-loop-k.result.now ≤ 2 ^ 48 = rw c.deref-in-loop-k.ensures.value
    (omega (arith, c.loop-k.invariant.ticked.most, c.requires.mass)) in
    room (IsStep c.args.chain.now) (tick_loss c.args.chain.now.of.subsystems) c.args.now.now.items c.loop-k.stays
    (mean_weight_of c.args.weights.now) c.loop-k.k c.y.result (sum c.deref-in-loop-k.result.now) c.requires.mass
    c.loop-k.invariant.stays (means_within c.args.weights.now c.loop-k.k (omega arith) (omega arith)) c.y.ensures.small now

pub loop-k-preserved : goal.loop-k-preserved
loop-k-preserved g c =
    let B : (Values ℕ → Values ℕ) → Type 0 = IsStep c.args.chain.now in
    let us = c.args.chain.now.of.subsystems in
    let loss : ℕ = tick_loss us in
    let v : List ℕ = c.args.now.now.items in
    let now : length c.loop-k.now.items ≡ states_of us = omega (arith, c.loop-k.invariant.now, c.loop-k.now.ok.0, c.requires.now) in
    let one : length c.deref.result.now ≡ states_of us = rw c.deref.ensures.value now in
    let two : length c.deref-in-loop-k.result.now ≡ states_of us = rw c.deref-in-loop-k.ensures.value now in
    let ends : IsSumWith (weight_of c.loop-k.k) c.loop-k.ends c.loop-k.now.items c.add_products.new.sums =
    rw (c.w.ensures.value, c.deref.ensures.value) at c.add_products.ensures.added in
    let stays : IsSumWith (mean_weight_of c.args.weights.now c.loop-k.k) c.loop-k.stays c.loop-k.now.items c.add_products-in-loop-k.new.sums =
    rw (c.y.ensures.value, c.deref-in-loop-k.ensures.value) at c.add_products-in-loop-k.ensures.added in
    record {
      now = omega (arith, c.step.ensures.now, c.loop-k.invariant.now);
      next = omega (arith, c.step.ensures.next, c.loop-k.invariant.next);
      ticked = ticked_more B loss v c.loop-k.now.items c.step.new.now.items c.loop-k.k c.loop-k.invariant.ticked c.step.ensures.weighed c.step.ensures.kept
          c.step.ensures.lack;
      ends = gathered_more B loss v c.loop-k.now.items c.loop-k.ends c.add_products.new.sums weight_of c.loop-k.k ends c.loop-k.invariant.ticked
          c.loop-k.invariant.ends;
      stays = gathered_more B loss v c.loop-k.now.items c.loop-k.stays c.add_products-in-loop-k.new.sums
          (mean_weight_of c.args.weights.now) c.loop-k.k stays c.loop-k.invariant.ticked c.loop-k.invariant.stays;
      counted = omega (arith, c.loop-k.invariant.counted, c.add_products.ensures.steps, c.add_products-in-loop-k.ensures.steps, c.step.ensures.steps, one, two);
    }

pub add_products-requires-2-clause-room : goal.add_products-requires-2-clause-room
add_products-requires-2-clause-room g c =
    let now : sum c.deref-2.result.now ≤ 2 ^ 48 = rw c.deref-2.ensures.value (omega (arith, c.loop-k.invariant.ticked.most, c.requires.mass)) in
    room (IsStep c.args.chain.now) (tick_loss c.args.chain.now.of.subsystems) c.args.now.now.items c.loop-k.ends weight_of c.loop-k.k c.w-2.result
    (sum c.deref-2.result.now) c.requires.mass c.loop-k.invariant.ends
    (sum_weights_le c.loop-k.k (omega arith)) c.w-2.ensures.small now

pub returns-clause-ends : goal.returns-clause-ends
returns-clause-ends g c =
    let order : ℕ = c.args.weights.now in
    let last : c.terms-last.result - 1 ≡ c.loop-k.k = omega arith in
    let terms : c.loop-k.k + 1 ≡ c.terms-last.result = omega arith in
    let weight : c.w-2.result ≡ weight_of c.loop-k.k = rw last at c.w-2.ensures.value in
    let added : IsSumWith (weight_of c.loop-k.k) c.loop-k.ends c.loop-k.now.items c.add_products-2.new.sums =
    rw (weight, c.deref-2.ensures.value) at c.add_products-2.ensures.added in
    let all : (c.loop-k.k + 1) + (c.args.weights.now - c.loop-k.k) ≡ c.args.weights.now + 1 = omega arith in
    rw all at
    (gathered_further (IsStep c.args.chain.now) (tick_loss c.args.chain.now.of.subsystems) c.args.now.now.items c.add_products-2.new.sums weight_of
    (c.loop-k.k + 1) (c.args.weights.now - c.loop-k.k)
    (λ k h. c.terms-last.ensures.rest k (omega arith))
    (gathered_more (IsStep c.args.chain.now) (tick_loss c.args.chain.now.of.subsystems) c.args.now.now.items c.loop-k.now.items c.loop-k.ends
    c.add_products-2.new.sums weight_of c.loop-k.k added c.loop-k.invariant.ticked c.loop-k.invariant.ends))

pub returns-clause-stays : goal.returns-clause-stays
returns-clause-stays g c =
    let all : c.loop-k.k + (c.args.weights.now + 1 - c.loop-k.k) ≡ c.args.weights.now + 1 = omega arith in
    rw all at
    (gathered_further (IsStep c.args.chain.now) (tick_loss c.args.chain.now.of.subsystems) c.args.now.now.items c.loop-k.stays
    (mean_weight_of c.args.weights.now) c.loop-k.k (c.args.weights.now + 1 - c.loop-k.k)
    (λ k h. mean_zero c.args.weights.now c.terms-last.result c.terms-last.ensures.rest k (omega arith)) c.loop-k.invariant.stays)

pub returns-clause-steps : goal.returns-clause-steps
returns-clause-steps g c =
    let us = c.args.chain.now.of.subsystems in
    let now : length c.deref-2.result.now ≡ states_of us = rw c.deref-2.ensures.value
    (omega (arith, c.loop-k.invariant.now, c.loop-k.now.ok.0, c.requires.now)) in
    all_products c.loop-k.k c.args.weights.now (states_of us) (lumped_events_of us) c.loop-k.steps c.args.steps.now c.add_products-2.new.steps
    (omega arith) c.loop-k.invariant.counted (omega (arith, c.add_products-2.ensures.steps, now))
