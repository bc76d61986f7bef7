use Rattle.std.proofs.Common.{◌≡◌, ◌*◌, ◌<◌, ◌≤◌, ap, length, arith}
use Rattle.sil_model.specs.Sizes.{all_beats_of, work_of, most_beats, most_work_of}
use Rattle.loop_value.proofs.Limits.{beats_first, work_first, none_first}
use Rattle.loop_value.proofs.measuring.sizes_by_plan.Goals as goal

pub returns-then-beats-gt-MOST_BEATS-clause-first : goal.returns-then-beats-gt-MOST_BEATS-clause-first
returns-then-beats-gt-MOST_BEATS-clause-first c f same =
    let many : most_beats < all_beats_of c.args.l.now = omega arith in
    cc (beats_first c.args.l.now c.args.order c.requires.few_tests c.requires.few_states many, c.all_beats-beats.ensures, same)

pub returns-then-work-most_work-clause-first : goal.returns-then-work-most_work-clause-first
returns-then-work-most_work-clause-first c f same =
    let few : all_beats_of c.args.l.now ≤ most_beats = omega arith in
    let work : c.all_beats-beats.result * c.from.result * c.args.states ≡ work_of c.args.l.now c.args.order = unfold work_of in cc in
    let many : most_work_of c.args.l.now < work_of c.args.l.now c.args.order =
    omega (arith, work, c.most_work.ensures.limit, c.if-work-most_work.true) in
    cc (work_first c.args.l.now c.args.order c.requires.few_tests c.requires.few_states few many, work, same)

pub returns-clause-sizes : goal.returns-clause-sizes
returns-clause-sizes c =
    let work : c.all_beats-beats.result * c.from.result * c.args.states ≡ work_of c.args.l.now c.args.order = unfold work_of in cc in
    cc (work, c.phases.ensures.phases, ap length c.requires.phases)

pub returns-clause-within : goal.returns-clause-within
returns-clause-within c =
    let few : all_beats_of c.args.l.now ≤ most_beats = omega arith in
    let work : c.all_beats-beats.result * c.from.result * c.args.states ≡ work_of c.args.l.now c.args.order = unfold work_of in cc in
    none_first c.args.l.now c.args.order c.requires.few_tests c.requires.few_states few
    (omega (arith, work, c.most_work.ensures.limit, c.if-work-most_work.false))
