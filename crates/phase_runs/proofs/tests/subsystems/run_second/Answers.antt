use Rattle.std.proofs.Common.{◌≡◌, ap, sym, ◌∙◌, arith}
use Rattle.sil_model.specs.declared.parts.Subsystem.{Subsystem}
use Rattle.subsystem_power.specs.Powers.{PowerValue}
use Rattle.subsystem_power.proofs.Valid.{some_of}
use Rattle.phase_runs.proofs.tests.subsystems.run_second.Goals as goal

pub run_phases-requires-clause-year : goal.run_phases-requires-clause-year
run_phases-requires-clause-year g c =
    let d : Subsystem = some_of c.in-Some.l.subsystems 1 (omega arith) in
    let e : c.in_ok-power.power.chain.of ≡ c.in_ok-second.second = ap (λ (p : PowerValue). p.chain.of) (c.in_ok-power.ensures d) ∙ sym (c.in_ok-second.ensures d) in
    rw e (record { some = omega arith; short = omega arith; enough = omega (arith, c.beats_of.ensures.beats); few = omega arith })

pub run_phases-requires-clause-half : goal.run_phases-requires-clause-half
run_phases-requires-clause-half g c =
    let d : Subsystem = some_of c.in-Some.l.subsystems 1 (omega arith) in
    let e : c.in_ok-power.power.chain.of ≡ c.in_ok-second.second = ap (λ (p : PowerValue). p.chain.of) (c.in_ok-power.ensures d) ∙ sym (c.in_ok-second.ensures d) in
    rw e (record { some = omega arith; short = omega arith; enough = omega (arith, c.beats_of-2.ensures.beats); few = omega arith })
