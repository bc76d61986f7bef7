use Rattle.std.proofs.Common.{refl, ap, ◌∙◌}
use Rattle.sil_model.specs.Figures.{no_phase}
use Rattle.mission_laws.specs.Missions.{pfd_lower, pfd_upper}
use Rattle.phase_way.proofs.PlanBeats.{hours-at}
use Rattle.loop_value.proofs.Reached.{start-at}
use Rattle.loop_value.proofs.Told.{record_is}
use Rattle.loop_value.proofs.telling.record.Goals as goal

pub returns : goal.returns
returns c =
    record_is c.args.l.now c.requires.plan.valid c.args.p c.requires.within c.args.m.now.up.items c.requires.ready.up c.args.m.now.mean.items c.args.m.now.v.items
    c.requires.ready.mean c.requires.ready.v _ refl
    (start-at c.args.plan.now.phases c.args.l.now c.args.p c.start.result (c.start.ensures no_phase) c.requires.plan.phases)
    (hours-at c.args.plan.now.phases c.args.l.now c.args.p c.hours.result (c.hours.ensures.hours no_phase) c.requires.plan.phases)
    (c.chance_down.ensures.lo ∙ ap pfd_lower (rw (c.as_slice-up.ensures.value, c.as_slice.ensures.value) at c.sides_of_means-mean.ensures.down))
    (c.chance_down.ensures.hi ∙ ap pfd_upper (rw (c.as_slice-up.ensures.value, c.as_slice.ensures.value) at c.sides_of_means-mean.ensures.up))
    (c.chance_down-2.ensures.lo ∙ ap pfd_lower (rw (c.as_slice-up.ensures.value, c.as_slice-2.ensures.value) at c.sides_of_vector-end.ensures.down))
    (c.chance_down-2.ensures.hi ∙ ap pfd_upper (rw (c.as_slice-up.ensures.value, c.as_slice-2.ensures.value) at c.sides_of_vector-end.ensures.up))
