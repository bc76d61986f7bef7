use Rattle.std.proofs.Common.{◌≡◌, length, List, ap, arith}
use Rattle.sil_model.specs.Calendar.{Phase, phases_of}
use Rattle.sil_model.specs.Figures.{no_phase}
use Rattle.phase_way.proofs.PlanBeats.{hours-at, few_beats}
use Rattle.phase_way.proofs.choice.Choice.beats_of_ladder.Goals as goal

pub way-requires-clause-beats : goal.way-requires-clause-beats
way-requires-clause-beats c =
    let phases : length c.args.plan.now.phases ≡ length (phases_of c.args.l.now) = ap (λ (ps : List Phase). length ps) c.requires.plan in
    omega (
      arith,
      c.beats_of-beats.ensures.beats,
      few_beats c.args.l.now c.loop-p.p c.hours.result 1_000_000 (omega (arith, phases, c.phases-p-end.ensures.phases, c.loop-p-test.true))
          (hours-at c.args.plan.now.phases c.args.l.now c.loop-p.p c.hours.result (c.hours.ensures.hours no_phase) c.requires.plan) c.requires.few,
    )
