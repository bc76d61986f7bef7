use Rattle.std.proofs.Common.{◌≡◌, ◌+◌, ◌*◌, ◌^◌, ◌<◌, ◌≤◌, arith, refl, sym, ◌∙◌, get_or}
use Rattle.common_cause.specs.declared.event.LumpEvent.{LumpEvent}
use Rattle.product_chain.specs.declared.step.Step.{Step}
use Rattle.product_chain.specs.Steps.{joined, step_by}
use Rattle.product_chain.proofs.Over.{over-start, over-yes, over-no, over-end, joined-small}
use Rattle.product_chain.proofs.Pushed.{fair, index-small, counts-here, step-is, num-small, read, no_event}
use Rattle.product_chain.proofs.step.push_steps.Goals as goal
use Rattle.product_chain.proofs.step.push_steps.Goals.{then-times-gt0+in_ok-add_step, else-times-gt0}

pub times-times-requires-clause-counts : goal.times-times-requires-clause-counts
times-times-requires-clause-counts c = counts-here c.args.l.now c.requires.valid c.args.events.now c.requires.events c.args.counts.now c.args.source c.requires.counts c.loop-event.event-index c.loop-event-test.true

pub times-times-requires-clause-event : goal.times-times-requires-clause-event
times-times-requires-clause-event c = (fair c.args.l.now c.requires.valid c.args.events.now c.requires.events c.args.counts.now c.args.source c.requires.counts c.loop-event.event-index c.loop-event-test.true).in_loop

pub happen-requires-clause-counts : goal.happen-requires-clause-counts
happen-requires-clause-counts c = rw c.copy_from_slice.ensures.after (counts-here c.args.l.now c.requires.valid c.args.events.now c.requires.events c.args.counts.now c.args.source c.requires.counts c.loop-event.event-index c.loop-event-test.true)

pub happen-requires-clause-event : goal.happen-requires-clause-event
happen-requires-clause-event c = (fair c.args.l.now c.requires.valid c.args.events.now c.requires.events c.args.counts.now c.args.source c.requires.counts c.loop-event.event-index c.loop-event-test.true).in_loop

pub happen-requires-clause-happens : goal.happen-requires-clause-happens
happen-requires-clause-happens c = rw c.copy_from_slice.ensures.after (omega (arith, c.times-times.ensures.times, c.if-times-gt0.true))

pub rank-requires : goal.rank-requires
rank-requires c = rw c.requires.space c.happen.ensures.valid

pub share_at-share-requires-clause-inside : goal.share_at-share-requires-clause-inside
share_at-share-requires-clause-inside c = omega (arith, c.from.ensures, (fair c.args.l.now c.requires.valid c.args.events.now c.requires.events c.args.counts.now c.args.source c.requires.counts c.loop-event.event-index c.loop-event-test.true).in_loop.subsystem)

pub share_at-share-requires-clause-counts : goal.share_at-share-requires-clause-counts
share_at-share-requires-clause-counts c = (counts-here c.args.l.now c.requires.valid c.args.events.now c.requires.events c.args.counts.now c.args.source c.requires.counts c.loop-event.event-index c.loop-event-test.true).counts.each

pub overflow_mul-step : goal.overflow_mul-step
overflow_mul-step c = let own = num-small c.args.l.now c.requires.valid c.args.events.now c.requires.events c.args.counts.now c.args.source
    c.requires.counts c.loop-event.event-index c.loop-event-test.true c.from-then-times-gt0.result c.quotient_of-units.result.0 c.share_at-share.result
    (omega (arith, c.from-then-times-gt0.ensures, c.times-times.ensures.small)) (rw c.from.ensures at c.share_at-share.ensures) c.quotient_of-units.ensures.num in omega (arith, own)

pub add_step-requires : goal.add_step-requires
add_step-requires c =
    let few : c.loop-event.event-index < 210 = index-small c.args.l.now c.requires.valid c.args.events.now c.requires.events c.args.counts.now c.args.source
    c.requires.counts c.loop-event.event-index c.loop-event-test.true in
    let own = num-small c.args.l.now c.requires.valid c.args.events.now c.requires.events c.args.counts.now c.args.source
    c.requires.counts c.loop-event.event-index c.loop-event-test.true c.from-then-times-gt0.result c.quotient_of-units.result.0 c.share_at-share.result
    (omega (arith, c.from-then-times-gt0.ensures, c.times-times.ensures.small)) (rw c.from.ensures at c.share_at-share.ensures) c.quotient_of-units.ensures.num in
    λ k d h. omega (arith, few, own, c.loop-event.invariant.small k d h)

pub loop-event-init : goal.loop-event-init
loop-event-init c = record {
  left = rw (c.requires.events, c.requires.counts) (over-start c.args.l.now.subsystems c.args.source c.args.steps.now.items c.requires.empty);
  small = rw c.requires.empty (λ k d h. absurd (omega arith));
}

pub loop-event-preserved : goal.loop-event-preserved
loop-event-preserved c =
    let event : LumpEvent = get_or c.args.events.now c.loop-event.event-index no_event in
    let is : event ≡ get_or c.args.events.now c.loop-event.event-index event =
    read c.args.events.now c.loop-event.event-index no_event c.loop-event-test.true in
    elim c.if-times-gt0.branch [
      | then-times-gt0+in_ok-add_step w ↦
          let own : w.from-then-times-gt0.result * w.quotient_of-units.result.0 ≤ 2 ^ 58 =
          num-small c.args.l.now c.requires.valid c.args.events.now c.requires.events c.args.counts.now c.args.source
          c.requires.counts c.loop-event.event-index c.loop-event-test.true w.from-then-times-gt0.result w.quotient_of-units.result.0 w.share_at-share.result
          (omega (arith, w.from-then-times-gt0.ensures, c.times-times.ensures.small)) (rw w.from.ensures at w.share_at-share.ensures) w.quotient_of-units.ensures.num in
          let step : Step = record {
            source = c.args.source;
            target = w.rank.result;
            num = w.from-then-times-gt0.result * w.quotient_of-units.result.0;
            den = w.quotient_of-units.result.1;
          } in
          let same : step ≡ step_by c.args.l.now.subsystems c.args.counts.now c.args.source event =
          step-is c.args.l.now c.requires.valid c.args.events.now c.requires.events c.args.counts.now c.args.source
          c.requires.counts c.loop-event.event-index c.loop-event-test.true
          w.from-then-times-gt0.result (w.from-then-times-gt0.ensures ∙ c.times-times.ensures.times)
          w.happen.new.counts (rw w.copy_from_slice.ensures.after at w.happen.ensures.moves)
          w.rank.result (w.from-then-times-gt0.result * w.quotient_of-units.result.0) w.quotient_of-units.result.1 w.quotient_of-units.result.0
          w.share_at-share.result (rw c.requires.space at w.rank.ensures.number) (rw w.from.ensures at w.share_at-share.ensures) w.quotient_of-units.ensures.num w.quotient_of-units.ensures.den refl step refl in
          let items : c.if-times-gt0.steps.items ≡ joined c.loop-event.steps.items step = rw w.steps-is w.in_ok-add_step.ensures in
          record {
            left =
                rw (items, same)
                (over-yes c.args.l.now.subsystems c.args.counts.now c.args.source c.args.events.now c.loop-event.event-index event
                c.loop-event-test.true is c.loop-event.steps.items (omega (arith, c.times-times.ensures.times, w.if-times-gt0.true))
                ∙ c.loop-event.invariant.left);
            small =
                let e : (c.loop-event.event-index + 1) * 2 ^ 58 ≡ c.loop-event.event-index * 2 ^ 58 + 2 ^ 58 = omega arith in
                rw (items, e) (joined-small (c.loop-event.event-index * 2 ^ 58) (2 ^ 58) c.loop-event.steps.items step c.loop-event.invariant.small own);
          }
      | else-times-gt0 w ↦
          record {
            left =
                rw w.steps-is
                (over-no c.args.l.now.subsystems c.args.counts.now c.args.source c.args.events.now c.loop-event.event-index event
                c.loop-event-test.true is c.loop-event.steps.items (omega (arith, c.times-times.ensures.times, w.if-times-gt0.false)) ∙ c.loop-event.invariant.left);
            small = rw w.steps-is (λ k d h. omega (arith, c.loop-event.invariant.small k d h));
          }
    ]

pub returns : goal.returns
returns c =
    sym (over-end c.args.l.now.subsystems c.args.counts.now c.args.source c.args.events.now c.loop-event.event-index c.loop-event.steps.items
    (omega arith)) ∙ c.loop-event.invariant.left
