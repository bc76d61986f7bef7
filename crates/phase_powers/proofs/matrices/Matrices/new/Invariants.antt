use Rattle.std.proofs.Common.{◌≡◌, vec_len, All}
use Rattle.vector_laws.specs.Matrix.{Matrix}
use Rattle.phase_powers.proofs.matrices.Matrices.new.Given as goal

abbrev pub invariant-loop : goal.invariant-loop
invariant-loop l = record {
  number : vec_len l.scratch ≡ l.counter;
  sizes : All (λ (m : Matrix). m.size ≡ l.size) l.scratch.items;
}
