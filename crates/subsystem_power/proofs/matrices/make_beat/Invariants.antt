use Rattle.std.proofs.Common.{◌≡◌, ℕ, ◌+◌, ◌*◌, ◌<◌, ◌≤◌}
use Rattle.sil_model.specs.Sizes.{states_of}
use Rattle.uniformise.specs.Beat.{beat_products}
use Rattle.vector_laws.specs.Rows.{row_of}
use Rattle.subsystem_power.specs.Rooms.{IsRow}
use Rattle.subsystem_power.proofs.matrices.make_beat.Given as goal

abbrev pub invariant-loop-i : goal.invariant-loop-i
invariant-loop-i g l = record {
  size : l.beat.size ≡ states_of l.chain.of.subsystems;
  work : l.work ≡ l.fn.work;
  rows : (k : ℕ) → k < l.i → IsRow l.chain l.weights k (row_of l.beat k);
  steps : l.steps ≤ l.fn.steps + l.i * beat_products l.chain.of.subsystems l.weights;
}
