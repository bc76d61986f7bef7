use Rattle.subsystem_power.proofs.Powers.{power_of_spare}
use Rattle.subsystem_power.proofs.power.SubsystemPower.power.Goals as goal

pub returns : goal.returns
returns c = λ some.
    rw (← c.self.view_is)
    (power_of_spare c.self.inside.chain 16 c.self.inside.count.number c.self.inside.power (c.self.invariant.powers (rw (← c.self.view_is) at some)).of_beats)
