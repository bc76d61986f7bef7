use Rattle.std.proofs.Common.{◌≡◌, ℕ, ◌<◌, ◌≢◌, slice_index}
use Rattle.vector_laws.specs.Matrix.{entry_of}
use Rattle.dense_power.proofs.dense.Dense.set_wide_row.Given as goal

abbrev pub invariant-loop-j : goal.invariant-loop-j
invariant-loop-j l = record {
  size : l.self.size ≡ l.initial.self.size;
  written : (k : ℕ) → k < l.j → entry_of l.self l.i k ≡ slice_index l.row k;
  others : (r k : ℕ) → k < l.initial.self.size → r ≢ l.i → entry_of l.self r k ≡ entry_of l.initial.self r k;
}
