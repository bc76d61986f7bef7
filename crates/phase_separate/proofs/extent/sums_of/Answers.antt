use Rattle.std.proofs.Common.{◌<◌, ◌≤◌, length, slice_index_or, arith}
use Rattle.phase_separate.specs.Extents.{IsSizeOf}
use Rattle.phase_separate.proofs.ExtentSums.{sums_more, few_more}
use Rattle.phase_separate.proofs.extent.sums_of.Goals as goal

pub size_of-size-requires : goal.size_of-size-requires
size_of-size-requires c = rw (← (c.subsystem.ensures c.subsystem.result.now)) at
    (c.len-i-end.ensures.valid.subsystems c.loop-i.i c.subsystem.result.now (omega (arith, c.loop-i-test.true, c.len-i-end.ensures.len, c.loop-i.auto)))

pub loop-i-preserved : goal.loop-i-preserved
loop-i-preserved c =
    let us = c.args.l.now.subsystems in
    let d = c.subsystem.result.now in
    let inside : c.loop-i.i < length us = omega (arith, c.loop-i-test.true, c.len-i-end.ensures.len, c.loop-i.auto) in
    let is : IsSizeOf (slice_index_or us c.loop-i.i d) c.size_of-size.result = rw (c.subsystem.ensures d) at c.size_of-size.ensures in
    let few : c.size_of-size.result.states ≤ 64 = omega (arith, c.if-size.false) in
    record {
      sums = sums_more us c.loop-i.i d c.size_of-size.result c.loop-i.sums c.add.new.self inside c.loop-i.invariant.sums is few c.add.ensures;
      few = few_more us c.loop-i.i d c.size_of-size.result c.loop-i.sums c.add.new.self inside c.loop-i.invariant.sums is few c.add.ensures c.loop-i.invariant.few;
    }
