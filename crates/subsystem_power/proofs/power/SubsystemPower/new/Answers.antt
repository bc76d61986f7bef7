use Rattle.std.proofs.Common.{arith}
use Rattle.sil_model.specs.declared.parts.Subsystem.{Subsystem}
use Rattle.subsystem_power.proofs.Valid.{some_of}
use Rattle.subsystem_power.proofs.power.SubsystemPower.new.Goals as goal

pub space_of-requires : goal.space_of-requires
space_of-requires c =
    let d : Subsystem = some_of c.args.l.now.subsystems c.args.i c.requires.i in rw (c.in_ok-alone.ensures d) (omega (arith, c.requires.few d))

pub new-requires-clause-short : goal.new-requires-clause-short
new-requires-clause-short c =
    let d : Subsystem = some_of c.args.l.now.subsystems c.args.i c.requires.i in rw (c.in_ok-alone.ensures d) (c.requires.timed d)

pub new-requires-3-clause-few : goal.new-requires-3-clause-few
new-requires-3-clause-few c =
    let d : Subsystem = some_of c.args.l.now.subsystems c.args.i c.requires.i in
    rw (c.size-size.ensures.size, c.in_ok-space.ensures, c.in_ok-alone.ensures d) (c.requires.few d)
