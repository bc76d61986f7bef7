use Rattle.std.proofs.Common.{ℕ, ◌<◌, ◌≤◌}
use Rattle.vector_laws.specs.Matrix.{entry_of}
use Rattle.tick_runs.proofs.tests.entries.is_small.Given as goal

abbrev pub invariant-loop-i : goal.invariant-loop-i
invariant-loop-i l = (i j : ℕ) → i < l.i → j < l.m.size → entry_of l.m i j ≤ l.most
