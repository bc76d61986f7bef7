use Rattle.std.proofs.Common.{◌≡◌, length, List, ap, arith}
use Rattle.sil_model.specs.Calendar.{Phase, phases_of}
use Rattle.sil_model.specs.Figures.{no_phase}
use Rattle.schedule_laws.proofs.PhasesOfLoop.{length-phases_of}
use Rattle.phase_way.proofs.PlanBeats.{hours-at, few_beats}
use Rattle.phase_way.proofs.rooms.Rooms.new.Goals as goal

pub hours-hours-requires : goal.hours-hours-requires
hours-hours-requires c =
    let phases : length c.args.plan.now.phases ≡ length (phases_of c.args.l.now) = ap (λ (ps : List Phase). length ps) c.requires.plan in
    omega (arith, phases, length-phases_of c.args.l.now)

pub new-requires-clause-short : goal.new-requires-clause-short
new-requires-clause-short c = record {
  some = c.hours-hours.ensures.some;
  short = c.hours-hours.ensures.few;
  enough = omega (arith, c.beats_of-beats.ensures.beats);
  few = omega (
    arith,
    c.beats_of-beats.ensures.beats,
    few_beats c.args.l.now 0 c.hours-hours.result 1_000_000 (omega (arith, length-phases_of c.args.l.now))
        (hours-at c.args.plan.now.phases c.args.l.now 0 c.hours-hours.result (c.hours-hours.ensures.hours no_phase) c.requires.plan) c.requires.few,
  );
}
