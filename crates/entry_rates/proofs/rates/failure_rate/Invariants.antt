use Rattle.entry_rates.proofs.Greatest.{IsSummed}
use Rattle.entry_rates.proofs.rates.failure_rate.Given as goal

abbrev pub invariant-loop-i : goal.invariant-loop-i
invariant-loop-i l = IsSummed l.l.subsystems l.i l.sum
