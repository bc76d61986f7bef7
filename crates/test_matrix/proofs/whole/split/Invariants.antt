use Rattle.std.proofs.Common.{◌≡◌, ℕ, ◌<◌, ◌≤◌, get_or}
use Rattle.std.specs.Prelude.{not}
use Rattle.test_matrix.specs.Halves.{number_if}
use Rattle.test_matrix.specs.Halves.{up_at}
use Rattle.test_matrix.proofs.whole.split.Given as goal

abbrev pub invariant-loop-i : goal.invariant-loop-i
invariant-loop-i l = record {
  at_up : (k : ℕ) → k < l.i → get_or l.v k 0 ≡ number_if (up_at l.is_up k) (get_or l.initial.v k 0);
  at_down : (k : ℕ) → k < l.i → get_or l.down k 0 ≡ number_if (not (up_at l.is_up k)) (get_or l.initial.v k 0);
  same : (k : ℕ) → l.i ≤ k → get_or l.v k 0 ≡ get_or l.initial.v k 0;
}
