use Rattle.std.proofs.Common.{◌≡◌, ◌+◌, ◌≤◌}
use Rattle.sil_model.specs.Counts.{lists_below}
use Rattle.lumping.proofs.group.split_triples.Given as goal

abbrev pub invariant-loop-alike : goal.invariant-loop-alike
invariant-loop-alike l = record {
  whole : lists_below 3 l.sum + l.rest ≡ l.number;
  alike : l.alike ≡ lists_below 2 (l.sum + 1);
  few : l.sum + l.rest ≤ l.number;
}

abbrev pub decreases-loop-alike : goal.decreases-loop-alike
decreases-loop-alike l = l.rest
