use Rattle.std.proofs.Common.{ℕ, ◌<◌, ◌≤◌}
use Rattle.vector_laws.specs.Matrix.{entry_of}
use Rattle.tick_runs.proofs.tests.entries.is_row_small.Given as goal

abbrev pub invariant-loop-j : goal.invariant-loop-j
invariant-loop-j l = (j : ℕ) → j < l.j → entry_of l.m l.i j ≤ l.most
