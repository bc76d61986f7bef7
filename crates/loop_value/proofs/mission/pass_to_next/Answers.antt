use Rattle.std.proofs.Common.{◌≡◌, ℕ, ◌*◌, [], length, get_or, List, ap, ◌∙◌, arith}
use Rattle.std.specs.Prelude.{map}
use Rattle.sil_model.specs.Calendar.{phases_of, test_hours_of, beats_of}
use Rattle.sil_model.specs.Figures.{no_phase}
use Rattle.sil_model.specs.LoopValue.{LoopValue}
use Rattle.sil_model.specs.Sizes.{most_beats}
use Rattle.test_calendar.specs.declared.groups.GroupTest.{GroupTest}
use Rattle.test_calendar.specs.GroupTests.{group_tests_at}
use Rattle.test_matrix.specs.HourTests.{Exist}
use Rattle.uniformise.specs.Beat.{beat_products}
use Rattle.phase_powers.specs.Products.{powered_products}
use Rattle.loop_value.specs.Mission.{test_products}
use Rattle.phase_way.proofs.PlanBeats.{hours-at, few_beats}
use Rattle.loop_value.proofs.Reached.{roomy, reached_next, exist_tests, counted_tests}
use Rattle.sil_watch.proofs.Lists.{on_error}
use Rattle.loop_value.proofs.Told.{passed}
use Rattle.loop_value.proofs.Places.{written}
use Rattle.loop_value.proofs.mission.pass_to_next.Goals as goal

pub pass_phase-requires-clause-few : goal.pass_phase-requires-clause-few
pass_phase-requires-clause-few g c =
    few_beats c.args.l.now c.args.p c.hours.result most_beats (omega (arith, c.requires.more))
    (hours-at c.args.plan.now.phases c.args.l.now c.args.p c.hours.result (c.hours.ensures.hours no_phase) c.requires.plan.phases) c.requires.few

pub pass_phase-requires-clause-room : goal.pass_phase-requires-clause-room
pass_phase-requires-clause-room g c =
    roomy c.args.l.now c.requires.plan.valid c.args.p c.hours.result no_phase (omega (arith, c.requires.more))
    (hours-at c.args.plan.now.phases c.args.l.now c.args.p c.hours.result (c.hours.ensures.hours no_phase) c.requires.plan.phases)
    c.args.m.now.dwell.items c.requires.reached.lost.dwell_mass

pub apply-passed-requires-clause-exist : goal.apply-passed-requires-clause-exist
apply-passed-requires-clause-exist g c =
    let tests : c.tests_after-tests.result.now ≡ get_or (map (group_tests_at c.args.l.now) (test_hours_of c.args.l.now)) c.args.p [] =
    c.tests_after-tests.ensures.tests ∙ ap (λ (ts : List (List GroupTest)). get_or ts c.args.p []) c.requires.plan.tests in
    let all : Exist c.args.l.now.subsystems c.tests_after-tests.result.now = exist_tests c.args.l.now c.args.p c.requires.more c.tests_after-tests.result.now tests in
    rw (ap (λ (l : LoopValue). l.subsystems) c.pass_phase.ensures.ready.tests) all

pub returns-clause-reached : goal.returns-clause-reached
returns-clause-reached g c =
    let tests : c.tests_after-tests.result.now ≡ get_or (map (group_tests_at c.args.l.now) (test_hours_of c.args.l.now)) c.args.p [] =
    c.tests_after-tests.ensures.tests ∙ ap (λ (ts : List (List GroupTest)). get_or ts c.args.p []) c.requires.plan.tests in
    rw (c.pass_phase.ensures.passages, written c.pass_phase.new.m.v.len c.apply-passed.new.v c.pass_phase.new.m.v.items (c.apply-passed.auto.v ∙ ap (λ (v : List ℕ). length v) c.as_mut_slice.ensures.value) (omega (arith, c.pass_phase.new.m.v.ok.0)))
    (reached_next c.args.l.now c.args.m.now.rooms.order c.args.p c.requires.more c.args.m.now.passages.least c.args.m.now.passages.most c.apply-passed.result.lo c.apply-passed.result.hi c.hours.result
    c.args.m.now.dwell.items c.args.m.now.v.items c.pass_phase.new.m.dwell.items c.as_mut_slice.result.now c.apply-passed.new.v c.tests_after-tests.result.now
    (hours-at c.args.plan.now.phases c.args.l.now c.args.p c.hours.result (c.hours.ensures.hours no_phase) c.requires.plan.phases)
    c.requires.reached (rw (← c.as_mut_slice.ensures.value) at c.pass_phase.ensures.passed.passes) (rw (← c.as_mut_slice.ensures.value) at c.pass_phase.ensures.passed.loses) tests
    c.apply-passed.ensures.kept c.apply-passed.result.ordered c.apply-passed.result.at_most_one
    (rw c.pass_phase.ensures.ready.tests at c.apply-passed.ensures.encloses) (rw c.pass_phase.ensures.ready.tests at c.apply-passed.ensures.lo)
    (rw c.pass_phase.ensures.ready.tests at c.apply-passed.ensures.hi) (rw c.pass_phase.ensures.ready.tests at c.apply-passed.ensures.loss) c.apply-passed.ensures.width)

pub returns-clause-steps : goal.returns-clause-steps
returns-clause-steps g c =
    let tests : c.tests_after-tests.result.now ≡ get_or (map (group_tests_at c.args.l.now) (test_hours_of c.args.l.now)) c.args.p [] =
    c.tests_after-tests.ensures.tests ∙ ap (λ (ts : List (List GroupTest)). get_or ts c.args.p []) c.requires.plan.tests in
    let hours : c.hours.result ≡ (get_or (phases_of c.args.l.now) c.args.p no_phase).hours =
    hours-at c.args.plan.now.phases c.args.l.now c.args.p c.hours.result (c.hours.ensures.hours no_phase) c.requires.plan.phases in
    omega (
      arith,
      c.pass_phase.ensures.steps,
      rw c.pass_phase.ensures.ready.tests at c.apply-passed.ensures.steps,
      ap (λ h. beats_of c.args.l.now.subsystems h * beat_products c.args.l.now.subsystems c.args.m.now.rooms.order) hours,
      ap (λ n. n * test_products c.args.l.now.subsystems) (counted_tests c.args.l.now c.args.p c.requires.more c.tests_after-tests.result.now tests),
    )

pub returns-clause-powered : goal.returns-clause-powered
returns-clause-powered g c = λ few digits room.
    let tests : c.tests_after-tests.result.now ≡ get_or (map (group_tests_at c.args.l.now) (test_hours_of c.args.l.now)) c.args.p [] =
    c.tests_after-tests.ensures.tests ∙ ap (λ (ts : List (List GroupTest)). get_or ts c.args.p []) c.requires.plan.tests in
    let hours : c.hours.result ≡ (get_or (phases_of c.args.l.now) c.args.p no_phase).hours =
    hours-at c.args.plan.now.phases c.args.l.now c.args.p c.hours.result (c.hours.ensures.hours no_phase) c.requires.plan.phases in
    let beats : ℕ = beats_of c.args.l.now.subsystems c.hours.result in
    omega (
      arith,
      c.pass_phase.ensures.powered few (digits beats) (room beats),
      rw c.pass_phase.ensures.ready.tests at c.apply-passed.ensures.steps,
      ap (λ h. powered_products c.args.l.now.subsystems c.args.m.now.rooms.order (digits (beats_of c.args.l.now.subsystems h))) hours,
      ap (λ n. n * test_products c.args.l.now.subsystems) (counted_tests c.args.l.now c.args.p c.requires.more c.tests_after-tests.result.now tests),
    )

pub returns-clause-told : goal.returns-clause-told
returns-clause-told g c =
    c.in_ok-tell.ensures.told c.args.m.now.rooms.order c.requires.order
    (passed c.args.l.now c.args.m.now.rooms.order c.args.p c.hours.result c.args.m.now.passages.least c.args.m.now.passages.most c.args.m.now.dwell.items c.args.m.now.v.items c.pass_phase.new.m.mean.items c.pass_phase.new.m.v.items
    (omega (arith, c.requires.more)) (hours-at c.args.plan.now.phases c.args.l.now c.args.p c.hours.result (c.hours.ensures.hours no_phase) c.requires.plan.phases)
    c.requires.reached c.pass_phase.ensures.passed.beats)

pub returns-in_err-tell-clause-refused : goal.returns-in_err-tell-clause-refused
returns-in_err-tell-clause-refused g c =
    on_error c.from_residual.result (c.in_err-tell.ensures.refused c.args.m.now.rooms.order c.requires.order
    (passed c.args.l.now c.args.m.now.rooms.order c.args.p c.hours.result c.args.m.now.passages.least c.args.m.now.passages.most c.args.m.now.dwell.items c.args.m.now.v.items c.pass_phase.new.m.mean.items c.pass_phase.new.m.v.items
    (omega (arith, c.requires.more)) (hours-at c.args.plan.now.phases c.args.l.now c.args.p c.hours.result (c.hours.ensures.hours no_phase) c.requires.plan.phases)
    c.requires.reached c.pass_phase.ensures.passed.beats))
