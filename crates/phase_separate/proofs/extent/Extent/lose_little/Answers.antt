use Rattle.std.proofs.Common.{arith}
use Rattle.std.proofs.lemmas.Bool.{leb-true}
use Rattle.phase_separate.proofs.ExtentSums.{little}
use Rattle.phase_separate.proofs.extent.Extent.lose_little.Goals as goal

pub returns-then-self-lack : goal.returns-then-self-lack
returns-then-self-lack c h =
    let e = c.self.invariant in
    rw (← c.self.view_is)
    (little c.self.inside.of.value.subsystems c.args.beats c.self.inside.states c.self.inside.events c.self.inside.subsystems c.self.inside.sums.lack
    e.states e.events e.subsystems e.sums.lack (omega (arith, c.if-beats-eq0.false)) (omega (arith, c.if-beats.false)) c.if-self-lack.true (leb-true _ _ h))
