use Rattle.std.proofs.Common.{◌+◌, ◌≤◌}
use Rattle.place_chain.proofs.estimate.flow_through.Given as goal

abbrev pub invariant-loop-entry : goal.invariant-loop-entry
invariant-loop-entry g l = l.steps ≤ l.fn.steps + l.entry-index
