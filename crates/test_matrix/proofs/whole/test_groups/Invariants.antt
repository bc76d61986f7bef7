use Rattle.std.proofs.Common.{ℕ, ◌+◌, ◌*◌, ◌≤◌, length, take, sum}
use Rattle.sil_fraction.specs.Fraction.{Fraction, ◌≤ℚ◌}
use Rattle.sil_model.specs.Series.{Values}
use Rattle.vector_laws.specs.Vectors.{weigh}
use Rattle.test_matrix.specs.Hours.{hour_list, AreBelow, LackAtMost}
use Rattle.test_matrix.proofs.whole.test_groups.Given as goal

abbrev pub invariant-loop-test : goal.invariant-loop-test
invariant-loop-test g l = record {
  up : (chance : ℕ → Fraction) → AreBelow chance l.groups → (f : Values ℕ)
      → weigh l.up f ≤ℚ weigh l.initial.up (hour_list chance l.groups (take l.test-index l.tests) f);
  down : (chance : ℕ → Fraction) → AreBelow chance l.groups → (f : Values ℕ)
      → weigh l.down f ≤ℚ weigh l.initial.down (hour_list chance l.groups (take l.test-index l.tests) f);
  loses : (lack : ℕ) → LackAtMost lack l.groups → sum l.initial.up + sum l.initial.down ≤ sum l.up + sum l.down + l.test-index * (lack + 2 * length l.up);
  kept : sum l.up + sum l.down ≤ sum l.initial.up + sum l.initial.down;
  count : l.steps ≤ l.fn.steps + l.test-index * (18 * length l.up);
}
