use Rattle.std.proofs.Common.{◌≡◌, List, ◌+◌, ◌<◌, ◌≤◌, ◌++◌, length, take}
use Rattle.std.specs.Prelude.{All, map}
use Rattle.sil_model.specs.declared.parts.Subsystem.{Subsystem}
use Rattle.product_chain.specs.Steps.{IsSlow}
use Rattle.product_chain.specs.Columns.{step_of_move, quotient}
use Rattle.product_chain.proofs.moves.push_moves.Given as goal

abbrev pub invariant-loop-step : goal.invariant-loop-step
invariant-loop-step l = record {
  steps : map (step_of_move l.rates.items) l.moves.items
      ≡ map (step_of_move l.initial.rates.items) l.initial.moves.items ++ take l.step-index l.steps;
  known : All (λ m. m.rate < length l.rates.items) l.moves.items;
  slow : (us : List Subsystem) → All (λ s. IsSlow us s.num s.den) l.steps → All (λ r. IsSlow us r.num r.den) l.initial.rates.items
      → All (λ r. IsSlow us r.num r.den) l.rates.items;
  numbered : l.numbers.keys ≡ map quotient l.rates.items;
  few : length l.rates.items ≤ length l.initial.rates.items + l.step-index;
}
