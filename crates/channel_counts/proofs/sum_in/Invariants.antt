use Rattle.std.proofs.Common.{◌≡◌, ◌-◌, ◌*◌, ◌≤◌}
use Rattle.channel_counts.specs.GroupSums.{sum_in}
use Rattle.channel_counts.proofs.sum_in.Given as goal

abbrev pub invariant-loop-g : goal.invariant-loop-g
invariant-loop-g l = record {
  sum : l.sum ≡ sum_in l.counts l.first (l.g - l.first) l.k;
  small : l.sum ≤ 255 * (l.g - l.first);
}
