use Rattle.std.proofs.Common.{length, ◌-◌, ◌≡◌, ◌≤◌}
use Rattle.std.specs.Prelude.{slice_range, All}
use Rattle.product_chain.proofs.moves.end_of_target.Given as goal

abbrev pub invariant-loop-end : goal.invariant-loop-end
invariant-loop-end l = record {
  rising : l.start ≤ l.end;
  within : l.end ≤ length l.moves;
  targets : All (λ m. m.target ≡ l.target) (slice_range l.moves l.start l.end);
}

abbrev pub decreases-loop-end : goal.decreases-loop-end
decreases-loop-end l = length l.moves - l.end
