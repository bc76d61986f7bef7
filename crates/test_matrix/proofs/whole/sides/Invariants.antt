use Rattle.std.proofs.Common.{◌≡◌, ◌+◌, get_or}
use Rattle.std.specs.Prelude.{not}
use Rattle.sil_fraction.specs.Sum.{sum_below}
use Rattle.test_matrix.specs.Halves.{number_if}
use Rattle.test_matrix.specs.Halves.{up_at}
use Rattle.test_matrix.proofs.whole.sides.Given as goal

abbrev pub invariant-loop-j : goal.invariant-loop-j
invariant-loop-j l = record {
  up : l.up ≡ sum_below l.j (λ k. number_if (up_at l.is_up k) (get_or l.v k 0));
  down : l.down ≡ sum_below l.j (λ k. number_if (not (up_at l.is_up k)) (get_or l.v k 0));
  both : l.down + l.up ≡ sum_below l.j (λ k. get_or l.v k 0);
}
