use Rattle.std.proofs.Common.{◌≡◌}
use Rattle.phase_runs.proofs.tests.subsystems.run_phases.Given as goal

abbrev pub invariant-loop : goal.invariant-loop
invariant-loop g l = l.power.chain.of ≡ l.fn.power.chain.of
