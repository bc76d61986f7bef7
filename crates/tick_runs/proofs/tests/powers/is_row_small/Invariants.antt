use Rattle.std.proofs.Common.{◌≡◌, ◌*◌, ◌^◌, ◌≤◌}
use Rattle.sil_fraction.specs.Sum.{sum_below}
use Rattle.vector_laws.specs.Matrix.{entry_of}
use Rattle.tick_runs.proofs.tests.powers.is_row_small.Given as goal

abbrev pub invariant-loop-j : goal.invariant-loop-j
invariant-loop-j l = record {
  sum : l.sum ≡ sum_below l.j (entry_of l.m l.i);
  small : l.sum ≤ l.j * 2 ^ 48;
}
