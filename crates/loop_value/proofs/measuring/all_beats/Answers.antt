use Rattle.std.proofs.Common.{◌<◌, arith, length, ap}
use Rattle.sil_model.specs.Calendar.{Phase, beats_of}
use Rattle.loop_value.proofs.Beats.{beats_over-more, beats_over-all}
use Rattle.loop_value.proofs.measuring.all_beats.Goals as goal

abbrev no_phase : Phase
no_phase = record { start = 0; hours = 0 }

pub overflow_add-beats : goal.overflow_add-beats
overflow_add-beats c =
    let inside : c.loop-i.i < length c.args.plan.now.phases = omega arith in
    omega arith

pub loop-i-preserved : goal.loop-i-preserved
loop-i-preserved c =
    let inside : c.loop-i.i < length c.args.plan.now.phases = omega arith in
    let more = beats_over-more c.args.l.now.subsystems c.args.plan.now.phases c.loop-i.i no_phase inside in
    let here = ap (beats_of c.args.l.now.subsystems) (c.hours.ensures.hours no_phase) in
    record {
      beats = cc (more, here, c.beats_of-beats.ensures.beats, c.loop-i.invariant.beats);
      bounded = omega arith;
    }

pub returns : goal.returns
returns c = cc (c.loop-i.invariant.beats, beats_over-all c.args.l.now c.args.plan.now.phases c.requires c.loop-i.i (omega arith))
