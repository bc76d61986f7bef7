use Rattle.std.proofs.Common.{◌≡◌, ◌*◌, ◌<◌, ◌≤◌, length}
use Rattle.std.specs.Prelude.{All, map}
use Rattle.sil_model.specs.Sizes.{channel_states}
use Rattle.sil_model.specs.LoopValue.{groups_of}
use Rattle.product_chain.specs.Steps.{steps_below, IsSlow}
use Rattle.product_chain.specs.Columns.{step_of_move, quotient}
use Rattle.product_chain.proofs.moves.moves_by_source.Given as goal

abbrev pub invariant-loop-i : goal.invariant-loop-i
invariant-loop-i l = record {
  steps : map (step_of_move l.rates.items) l.moves.items ≡ steps_below l.l.subsystems l.i;
  known : All (λ m. m.rate < length l.rates.items) l.moves.items;
  slow : All (λ r. IsSlow l.l.subsystems r.num r.den) l.rates.items;
  numbered : l.numbers.keys ≡ map quotient l.rates.items;
  few : length l.rates.items ≤ l.i * 210;
  counts : length l.counts.items ≡ channel_states * length (groups_of l.l.subsystems);
  after : length l.after.items ≡ channel_states * length (groups_of l.l.subsystems);
}
