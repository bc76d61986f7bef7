use Rattle.std.proofs.Common.{◌≡◌, ℕ, ◌+◌, ◌*◌, ◌/◌, ◌^◌, ◌<◌, slice_index}
use Rattle.sil_fraction.specs.Sum.{sum_below}
use Rattle.vector_laws.specs.Matrix.{entry_of}
use Rattle.phase_powers.proofs.matrices.end_of.Given as goal

abbrev pub invariant-loop-j : goal.invariant-loop-j
invariant-loop-j g l = record {
  floors : (j : ℕ) → j < l.j → slice_index l.to j ≡ sum_below l.end.size (λ k. slice_index l.v k * entry_of l.end k j) / 2 ^ 48;
  steps : l.steps ≡ l.initial.steps + l.j * l.end.size;
}
