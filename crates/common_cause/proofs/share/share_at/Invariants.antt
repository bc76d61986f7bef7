use Rattle.std.proofs.Common.{ℕ}
use Rattle.channel_counts.proofs.Subsystems.{AtSubsystem}
use Rattle.common_cause.proofs.Shares.{SharesLeft}
use Rattle.common_cause.proofs.share.share_at.Given as goal

abbrev pub invariant-loop-i : goal.invariant-loop-i
invariant-loop-i l = record {
  left : SharesLeft l.l.subsystems l.counts l.subsystem l.i l.first;
  at : (a : ℕ) × AtSubsystem l.l.subsystems l.i l.first a;
}
