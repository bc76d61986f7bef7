use Rattle.std.proofs.Common.{◌≡◌, ℕ, ◌+◌, ◌*◌, ◌<◌, ◌≤◌, length, get_or, sum}
use Rattle.sil_fraction.specs.Fraction.{◌+ℚ◌, ◌*ℚ◌, whole}
use Rattle.sil_fraction.specs.Sum.{total_below, sum_below}
use Rattle.sil_model.specs.Series.{Values}
use Rattle.interval_fixed.specs.DotValue.{DotValue}
use Rattle.vector_laws.specs.Vectors.{weigh}
use Rattle.test_matrix.specs.Spread.{walk, sums_of}
use Rattle.test_matrix.proofs.spread.add_spread.Given as goal

abbrev pub invariant-loop-k : goal.invariant-loop-k
invariant-loop-k g l = record {
  at : l.at ≡ walk l.failed l.k l.place;
  below : l.at < length l.sums;
  spread : (f : Values ℕ)
      → weigh (sums_of l.sums) f ≡ weigh (sums_of l.initial.sums) f
      +ℚ whole l.x *ℚ total_below l.k (λ k. whole (get_or l.row k 0) *ℚ f (walk l.failed k l.place));
  number : (j : ℕ) (d : DotValue) → j < length l.sums → (get_or l.sums j d).number ≤ (get_or l.initial.sums j d).number + l.k;
  count : l.steps ≡ l.fn.steps + l.k;
  mass : sum (sums_of l.sums) ≡ sum (sums_of l.initial.sums) + l.x * sum_below l.k (λ k. get_or l.row k 0);
}
