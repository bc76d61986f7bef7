use Rattle.std.proofs.Common.{◌≡◌, ◌+◌}
use Rattle.sil_model.specs.Counts.{lists_below}
use Rattle.lumping.proofs.group.split_pairs.Given as goal

abbrev pub invariant-loop-sum : goal.invariant-loop-sum
invariant-loop-sum l = lists_below 2 l.sum + l.rest ≡ l.number

abbrev pub decreases-loop-sum : goal.decreases-loop-sum
decreases-loop-sum l = l.rest
