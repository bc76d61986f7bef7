use Rattle.std.proofs.Common.{ℕ, ◌^◌, ◌<◌, ◌≤◌, sum}
use Rattle.vector_laws.specs.Rows.{row_of}
use Rattle.tick_runs.proofs.tests.powers.are_rows_small.Given as goal

abbrev pub invariant-loop-i : goal.invariant-loop-i
invariant-loop-i l = (k : ℕ) → k < l.i → sum (row_of l.m k) ≤ 2 ^ 48
