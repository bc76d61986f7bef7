use Rattle.std.proofs.Common.{◌≡◌, All, vec_len}
use Rattle.vector_laws.specs.Matrix.{Matrix}
use Rattle.tick_runs.proofs.tests.powers.scratch_of.Given as goal

abbrev pub invariant-loop : goal.invariant-loop
invariant-loop l = record {
  many : vec_len l.scratch ≡ l.counter;
  sizes : All (λ (m : Matrix). m.size ≡ l.size) l.scratch.items;
}
