use Rattle.std.proofs.Common.{◌≡◌, ◌<◌, length, arith, sym, ap, ◌∙◌}
use Rattle.std.proofs.Math.Seq.{take-length}
use Rattle.std.proofs.lemmas.List.Sums.{sum_by_more}
use Rattle.test_calendar.specs.Counts.{channels_count}
use Rattle.test_calendar.proofs.InRange.{in_range}
use Rattle.test_calendar.proofs.ChannelCounts.{tests_in, channel_tests_as}
use Rattle.test_calendar.proofs.counting.channel_tests.Goals as goal

pub subsystem_tests-count-requires-clause-in_range : goal.subsystem_tests-count-requires-clause-in_range
subsystem_tests-count-requires-clause-in_range c = in_range c.args.l.now c.len-i-end.ensures.valid c.loop-i.i c.subsystem.result.now (omega arith) c.subsystem.ensures

pub loop-i-preserved : goal.loop-i-preserved
loop-i-preserved c =
    let u = c.subsystem.result.now in
    let h : c.loop-i.i < length c.args.l.now.subsystems = omega arith in
    let f = tests_in c.args.l.now.mission in
    let e = ap f (c.subsystem.ensures u) in
    let m = ap (λ k. channels_count k u.test 0 u.vote.n) c.mission-mission.ensures.mission in
    record {
      count = cc (e, m, sum_by_more f c.args.l.now.subsystems c.loop-i.i u h, c.subsystem_tests-count.ensures.tests, c.loop-i.invariant.count);
      bounded = omega arith;
    }

pub returns-clause-tests : goal.returns-clause-tests
returns-clause-tests c =
    let n : c.loop-i.i ≡ length c.args.l.now.subsystems = omega arith in
    c.loop-i.invariant.count
    ∙ rw (n, take-length) (sym (channel_tests_as c.args.l.now c.len-i-end.ensures.valid))
