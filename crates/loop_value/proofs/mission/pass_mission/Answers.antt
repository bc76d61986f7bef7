use Rattle.std.proofs.Common.{◌≡◌, ℕ, ◌+◌, ◌-◌, ◌*◌, suc, length, get_or, List, refl, ap, ◌∙◌, arith}
use Rattle.sil_model.specs.Calendar.{Phase, phases_of, beats_of}
use Rattle.sil_model.specs.Figures.{no_phase}
use Rattle.sil_model.specs.Sizes.{most_beats}
use Rattle.schedule_laws.proofs.PhasesOfLoop.{length-phases_of}
use Rattle.mission_laws.proofs.Losses.{beats-more, group_tests-more, group_tests-all}
use Rattle.uniformise.specs.Beat.{beat_products}
use Rattle.loop_value.specs.Mission.{StandsAt, test_products}
use Rattle.phase_powers.specs.Products.{powered_products}
use Rattle.loop_value.proofs.Powered.{powered-more}
use Rattle.phase_way.proofs.PlanBeats.{hours-at, few_beats}
use Rattle.loop_value.proofs.Reached.{roomy, counted_last, lost_last, products_last}
use Rattle.sil_watch.proofs.Lists.{on_error}
use Rattle.loop_value.proofs.Told.{passed, fed_start, fed_next, fed_part}
use Rattle.loop_value.proofs.mission.pass_mission.Goals as goal

pub loop-p-init : goal.loop-p-init
loop-p-init g c = record {
  ready = c.requires.ready;
  order = refl;
  reached = c.requires.start;
  counted = omega arith;
  powered = λ few digits room. omega arith;
  fed = fed_start c.args.l.now c.args.m.now.rooms.order c.args.asked _;
}

pub loop-p-preserved : goal.loop-p-preserved
loop-p-preserved g c =
    let one : suc c.loop-p.p ≡ c.loop-p.p + 1 = omega arith in
    let phases : c.phases-last.result ≡ length (phases_of c.args.l.now) = c.phases-last.ensures.phases ∙ ap (λ (ps : List Phase). length ps) c.requires.plan.phases in
    record {
      ready = c.in_ok-pass_to_next.ensures.ready;
      order = c.in_ok-pass_to_next.ensures.order ∙ c.loop-p.invariant.order;
      reached = rw (c.loop-p.invariant.order, one) at c.in_ok-pass_to_next.ensures.reached;
      counted = omega (
        arith,
        rw c.loop-p.invariant.order at c.in_ok-pass_to_next.ensures.steps,
        c.loop-p.invariant.counted,
        ap (λ n. n * beat_products c.args.l.now.subsystems c.args.m.now.rooms.order)
            (beats-more c.args.l.now c.loop-p.p no_phase (omega (arith, phases, c.loop-p-test.true))),
        ap (λ n. n * test_products c.args.l.now.subsystems)
            (group_tests-more c.args.l.now c.loop-p.p 0 (omega (arith, phases, c.loop-p-test.true, length-phases_of c.args.l.now))),
      );
      powered = λ few digits room.
          omega (
            arith,
            (rw c.loop-p.invariant.order at c.in_ok-pass_to_next.ensures.powered) few digits room,
            c.loop-p.invariant.powered few digits room,
            powered-more c.args.l.now c.args.m.now.rooms.order digits c.loop-p.p no_phase (omega (arith, phases, c.loop-p-test.true)),
            ap (λ n. n * test_products c.args.l.now.subsystems)
                (group_tests-more c.args.l.now c.loop-p.p 0 (omega (arith, phases, c.loop-p-test.true, length-phases_of c.args.l.now))),
          );
      fed = rw one at (fed_next c.args.l.now c.args.m.now.rooms.order c.args.asked c.loop-p.p _ _ _ c.loop-p.invariant.fed (rw c.loop-p.invariant.order at c.in_ok-pass_to_next.ensures.told));
    }

pub returns-in_err-pass_to_next-clause-refused : goal.returns-in_err-pass_to_next-clause-refused
returns-in_err-pass_to_next-clause-refused g c =
    let phases : c.phases-last.result ≡ length (phases_of c.args.l.now) = c.phases-last.ensures.phases ∙ ap (λ (ps : List Phase). length ps) c.requires.plan.phases in
    on_error c.from_residual.result (fed_part c.args.l.now c.args.m.now.rooms.order c.args.asked c.loop-p.p _ _ _ c.loop-p.invariant.fed (omega (arith, phases, c.loop-p-test.true))
    (rw c.loop-p.invariant.order at c.in_err-pass_to_next.ensures.refused))

pub pass_phase-requires-clause-few : goal.pass_phase-requires-clause-few
pass_phase-requires-clause-few g c =
    let phases : c.phases-last.result ≡ length (phases_of c.args.l.now) = c.phases-last.ensures.phases ∙ ap (λ (ps : List Phase). length ps) c.requires.plan.phases in
    few_beats c.args.l.now (c.phases-last.result - 1) c.hours.result most_beats (omega (arith, phases, c.phases-last.ensures.some))
    (hours-at c.args.plan.now.phases c.args.l.now (c.phases-last.result - 1) c.hours.result (c.hours.ensures.hours no_phase) c.requires.plan.phases) c.requires.few

pub pass_phase-requires-clause-room : goal.pass_phase-requires-clause-room
pass_phase-requires-clause-room g c =
    let phases : c.phases-last.result ≡ length (phases_of c.args.l.now) = c.phases-last.ensures.phases ∙ ap (λ (ps : List Phase). length ps) c.requires.plan.phases in
    let last : c.loop-p.p ≡ c.phases-last.result - 1 = omega (arith, c.loop-p-test.false, c.loop-p.auto.p-end) in
    let reached : StandsAt c.args.l.now c.args.m.now.rooms.order (c.phases-last.result - 1) c.loop-p.m =
    rw last at c.loop-p.invariant.reached in
    roomy c.args.l.now c.requires.plan.valid (c.phases-last.result - 1) c.hours.result no_phase (omega (arith, phases, c.phases-last.ensures.some))
    (hours-at c.args.plan.now.phases c.args.l.now (c.phases-last.result - 1) c.hours.result (c.hours.ensures.hours no_phase) c.requires.plan.phases)
    c.loop-p.m.dwell.items reached.lost.dwell_mass

pub returns-clause-counted : goal.returns-clause-counted
returns-clause-counted g c =
    let phases : c.phases-last.result ≡ length (phases_of c.args.l.now) = c.phases-last.ensures.phases ∙ ap (λ (ps : List Phase). length ps) c.requires.plan.phases in
    let last : c.loop-p.p ≡ c.phases-last.result - 1 = omega (arith, c.loop-p-test.false, c.loop-p.auto.p-end) in
    rw c.pass_phase.ensures.passages
    (counted_last c.args.l.now c.args.m.now.rooms.order (c.phases-last.result - 1) (omega (arith, phases, c.phases-last.ensures.some)) c.loop-p.m.passages.least c.loop-p.m.passages.most
    c.hours.result c.loop-p.m.dwell.items c.loop-p.m.v.items c.pass_phase.new.m.dwell.items c.pass_phase.new.m.v.items
    (hours-at c.args.plan.now.phases c.args.l.now (c.phases-last.result - 1) c.hours.result (c.hours.ensures.hours no_phase) c.requires.plan.phases)
    (rw last at c.loop-p.invariant.reached) (rw c.loop-p.invariant.order at c.pass_phase.ensures.passed.passes) (rw c.loop-p.invariant.order at c.pass_phase.ensures.passed.loses))

pub returns-clause-lost : goal.returns-clause-lost
returns-clause-lost g c =
    let phases : c.phases-last.result ≡ length (phases_of c.args.l.now) = c.phases-last.ensures.phases ∙ ap (λ (ps : List Phase). length ps) c.requires.plan.phases in
    let last : c.loop-p.p ≡ c.phases-last.result - 1 = omega (arith, c.loop-p-test.false, c.loop-p.auto.p-end) in
    rw c.pass_phase.ensures.passages
    (lost_last c.args.l.now c.args.m.now.rooms.order (c.phases-last.result - 1) (omega (arith, phases, c.phases-last.ensures.some)) c.loop-p.m.passages.least c.loop-p.m.passages.most
    c.hours.result c.loop-p.m.dwell.items c.loop-p.m.v.items c.pass_phase.new.m.dwell.items c.pass_phase.new.m.v.items
    (hours-at c.args.plan.now.phases c.args.l.now (c.phases-last.result - 1) c.hours.result (c.hours.ensures.hours no_phase) c.requires.plan.phases)
    (rw last at c.loop-p.invariant.reached) (rw c.loop-p.invariant.order at c.pass_phase.ensures.passed.passes) (rw c.loop-p.invariant.order at c.pass_phase.ensures.passed.loses))

pub returns-clause-few : goal.returns-clause-few
returns-clause-few g c =
    let phases : c.phases-last.result ≡ length (phases_of c.args.l.now) = c.phases-last.ensures.phases ∙ ap (λ (ps : List Phase). length ps) c.requires.plan.phases in
    let last : c.loop-p.p ≡ c.phases-last.result - 1 = omega (arith, c.loop-p-test.false, c.loop-p.auto.p-end) in
    rw c.pass_phase.ensures.passages (omega (arith, c.loop-p.invariant.reached.few, last, phases, c.phases-last.ensures.some, length-phases_of c.args.l.now))

pub returns-clause-steps : goal.returns-clause-steps
returns-clause-steps g c =
    let phases : c.phases-last.result ≡ length (phases_of c.args.l.now) = c.phases-last.ensures.phases ∙ ap (λ (ps : List Phase). length ps) c.requires.plan.phases in
    let last : c.loop-p.p ≡ c.phases-last.result - 1 = omega (arith, c.loop-p-test.false, c.loop-p.auto.p-end) in
    omega (
      arith,
      rw c.loop-p.invariant.order at c.pass_phase.ensures.steps,
      rw last at c.loop-p.invariant.counted,
      products_last c.args.l.now c.args.m.now.rooms.order (c.phases-last.result - 1) (omega (arith, phases, c.phases-last.ensures.some)) c.loop-p.m.passages.least c.loop-p.m.passages.most
          c.hours.result c.loop-p.m.dwell.items c.loop-p.m.v.items c.pass_phase.new.m.dwell.items c.pass_phase.new.m.v.items
          (hours-at c.args.plan.now.phases c.args.l.now (c.phases-last.result - 1) c.hours.result (c.hours.ensures.hours no_phase) c.requires.plan.phases)
          (rw last at c.loop-p.invariant.reached) (rw c.loop-p.invariant.order at c.pass_phase.ensures.passed.passes) (rw c.loop-p.invariant.order at c.pass_phase.ensures.passed.loses)
          (beat_products c.args.l.now.subsystems c.args.m.now.rooms.order) (test_products c.args.l.now.subsystems),
    )

pub returns-clause-powered : goal.returns-clause-powered
returns-clause-powered g c = λ few digits room.
    let phases : c.phases-last.result ≡ length (phases_of c.args.l.now) = c.phases-last.ensures.phases ∙ ap (λ (ps : List Phase). length ps) c.requires.plan.phases in
    let last : c.loop-p.p ≡ c.phases-last.result - 1 = omega (arith, c.loop-p-test.false, c.loop-p.auto.p-end) in
    let p : ℕ = c.phases-last.result - 1 in
    let all : p + 1 ≡ length (phases_of c.args.l.now) = omega (arith, phases, c.phases-last.ensures.some) in
    let hours : c.hours.result ≡ (get_or (phases_of c.args.l.now) p no_phase).hours =
    hours-at c.args.plan.now.phases c.args.l.now p c.hours.result (c.hours.ensures.hours no_phase) c.requires.plan.phases in
    let beats : ℕ = beats_of c.args.l.now.subsystems c.hours.result in
    omega (
      arith,
      (rw c.loop-p.invariant.order at c.pass_phase.ensures.powered) few (digits beats) (room beats),
      (rw last at c.loop-p.invariant.powered) few digits room,
      rw all at (powered-more c.args.l.now c.args.m.now.rooms.order digits p no_phase (omega arith)),
      ap (λ h. powered_products c.args.l.now.subsystems c.args.m.now.rooms.order (digits (beats_of c.args.l.now.subsystems h))) hours,
      ap (λ n. n * test_products c.args.l.now.subsystems) (group_tests-all c.args.l.now p (omega (arith, all, length-phases_of c.args.l.now))),
    )

pub returns-clause-told : goal.returns-clause-told
returns-clause-told g c =
    let phases : c.phases-last.result ≡ length (phases_of c.args.l.now) = c.phases-last.ensures.phases ∙ ap (λ (ps : List Phase). length ps) c.requires.plan.phases in
    let last : c.loop-p.p ≡ c.phases-last.result - 1 = omega (arith, c.loop-p-test.false, c.loop-p.auto.p-end) in
    let all : suc (c.phases-last.result - 1) ≡ length (phases_of c.args.l.now) = omega (arith, phases, c.phases-last.ensures.some) in
    rw all at (fed_next c.args.l.now c.args.m.now.rooms.order c.args.asked (c.phases-last.result - 1) _ _ _ (rw last at c.loop-p.invariant.fed)
    (c.in_ok-tell.ensures.told c.args.m.now.rooms.order c.requires.order
    (passed c.args.l.now c.args.m.now.rooms.order (c.phases-last.result - 1) c.hours.result c.loop-p.m.passages.least c.loop-p.m.passages.most c.loop-p.m.dwell.items c.loop-p.m.v.items
    c.pass_phase.new.m.mean.items c.pass_phase.new.m.v.items (omega (arith, phases, c.phases-last.ensures.some))
    (hours-at c.args.plan.now.phases c.args.l.now (c.phases-last.result - 1) c.hours.result (c.hours.ensures.hours no_phase) c.requires.plan.phases)
    (rw last at c.loop-p.invariant.reached) (rw c.loop-p.invariant.order at c.pass_phase.ensures.passed.beats))))

pub returns-in_err-tell-clause-refused : goal.returns-in_err-tell-clause-refused
returns-in_err-tell-clause-refused g c =
    let phases : c.phases-last.result ≡ length (phases_of c.args.l.now) = c.phases-last.ensures.phases ∙ ap (λ (ps : List Phase). length ps) c.requires.plan.phases in
    let last : c.loop-p.p ≡ c.phases-last.result - 1 = omega (arith, c.loop-p-test.false, c.loop-p.auto.p-end) in
    on_error c.from_residual-in_err-tell.result (fed_part c.args.l.now c.args.m.now.rooms.order c.args.asked (c.phases-last.result - 1) _ _ _ (rw last at c.loop-p.invariant.fed)
    (omega (arith, phases, c.phases-last.ensures.some))
    (c.in_err-tell.ensures.refused c.args.m.now.rooms.order c.requires.order
    (passed c.args.l.now c.args.m.now.rooms.order (c.phases-last.result - 1) c.hours.result c.loop-p.m.passages.least c.loop-p.m.passages.most c.loop-p.m.dwell.items c.loop-p.m.v.items
    c.pass_phase.new.m.mean.items c.pass_phase.new.m.v.items (omega (arith, phases, c.phases-last.ensures.some))
    (hours-at c.args.plan.now.phases c.args.l.now (c.phases-last.result - 1) c.hours.result (c.hours.ensures.hours no_phase) c.requires.plan.phases)
    (rw last at c.loop-p.invariant.reached) (rw c.loop-p.invariant.order at c.pass_phase.ensures.passed.beats))))
