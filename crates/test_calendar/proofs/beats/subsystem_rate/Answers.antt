use Rattle.std.proofs.Common.{◌<◌, arith}
use Rattle.test_calendar.proofs.Ceiling.{ceiling_as}
use Rattle.test_calendar.proofs.beats.subsystem_rate.Goals as goal

pub returns-clause-rate : goal.returns-clause-rate
returns-clause-rate c =
    let h : 0 < c.args.u.now.figures.repair = omega (arith, c.requires.figures.repair.above) in
    let e = ceiling_as 1000000000000 c.args.u.now.figures.repair h in
    cc
