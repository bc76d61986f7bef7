use Rattle.std.proofs.Common.{◌≡◌, ℕ, ◌+◌, ◌*◌, ◌<◌, ◌≤◌}
use Rattle.sil_model.specs.Sizes.{states_of}
use Rattle.uniformise.specs.Beat.{beat_products}
use Rattle.vector_laws.specs.Rows.{row_of}
use Rattle.phase_powers.specs.Pairs.{IsRowPair}
use Rattle.phase_powers.proofs.rows.make_beat_pair.Given as goal

abbrev pub invariant-loop-i : goal.invariant-loop-i
invariant-loop-i g l = record {
  end_size : l.end.size ≡ states_of l.phase.chain.now.of.subsystems;
  dwell_size : l.dwell.size ≡ states_of l.phase.chain.now.of.subsystems;
  work : l.work ≡ l.fn.work;
  rows : (k : ℕ) → k < l.i → IsRowPair l.phase.chain.now l.phase.weights.now k (row_of l.end k) (row_of l.dwell k);
  steps : l.steps ≤ l.fn.steps + l.i * beat_products l.phase.chain.now.of.subsystems l.phase.weights.now;
}
