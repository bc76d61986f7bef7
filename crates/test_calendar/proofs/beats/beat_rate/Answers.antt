use Rattle.std.proofs.Common.{◌<◌, length, arith, sym, ap}
use Rattle.test_calendar.proofs.InRange.{in_range}
use Rattle.test_calendar.proofs.Rates.{rate_in, beat_rate-none, beat_rate-more}
use Rattle.test_calendar.proofs.beats.beat_rate.Goals as goal

pub loop-i-init : goal.loop-i-init
loop-i-init c = record { rate = sym (beat_rate-none c.args.l.now.subsystems); bounded = omega arith }

pub subsystem_rate-rate-requires : goal.subsystem_rate-rate-requires
subsystem_rate-rate-requires c = in_range c.args.l.now c.len-i-end.ensures.valid c.loop-i.i c.subsystem.result.now (omega arith) c.subsystem.ensures

pub loop-i-preserved : goal.loop-i-preserved
loop-i-preserved c =
    let u = c.subsystem.result.now in
    let h : c.loop-i.i < length c.args.l.now.subsystems = omega arith in
    let e = ap rate_in (c.subsystem.ensures u) in
    record {
      rate = cc (e, beat_rate-more c.args.l.now.subsystems c.loop-i.i u h, c.subsystem_rate-rate.ensures.rate, c.loop-i.invariant.rate);
      bounded = omega arith;
    }
