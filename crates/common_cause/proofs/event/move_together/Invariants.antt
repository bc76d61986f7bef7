use Rattle.std.proofs.Common.{◌≡◌, ℕ, ◌+◌, ◌-◌, ◌≤◌}
use Rattle.sil_model.specs.Counts.{count_in}
use Rattle.sil_model.specs.declared.parts.Chan.{Chan}
use Rattle.channel_counts.specs.GroupSums.{moved_together}
use Rattle.common_cause.proofs.event.move_together.Given as goal

abbrev pub invariant-loop-g : goal.invariant-loop-g
invariant-loop-g l = record {
  left : moved_together l.g (l.first + l.groups - l.g) l.to l.counts ≡ moved_together l.first l.groups l.to l.initial.counts;
  small : (h : ℕ) (k : Chan) → l.g ≤ h → count_in l.counts h k ≤ 8;
}
