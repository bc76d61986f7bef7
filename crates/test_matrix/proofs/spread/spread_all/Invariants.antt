use Rattle.std.proofs.Common.{◌≡◌, ℕ, ◌+◌, ◌*◌, ◌<◌, ◌≤◌, length, get_or, sum}
use Rattle.sil_model.specs.Series.{Values}
use Rattle.interval_fixed.specs.DotValue.{DotValue}
use Rattle.vector_laws.specs.Vectors.{weigh}
use Rattle.test_matrix.specs.Spread.{sums_of, spread_sum, spread_mass}
use Rattle.test_matrix.proofs.spread.spread_all.Given as goal

abbrev pub invariant-loop-i : goal.invariant-loop-i
invariant-loop-i g l = record {
  spread : (f : Values ℕ) → weigh (sums_of l.sums) f ≡ spread_sum l.rows l.works l.i l.settled l.failed l.v f;
  mass : sum (sums_of l.sums) ≡ spread_mass l.rows l.works l.i l.v;
  number : (j : ℕ) (d : DotValue) → j < length l.sums → (get_or l.sums j d).number ≤ 9 * l.i;
  count : l.steps ≤ l.fn.steps + 9 * l.i;
}
