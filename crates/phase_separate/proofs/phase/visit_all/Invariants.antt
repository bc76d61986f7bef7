use Rattle.std.proofs.Common.{◌≡◌, ◌+◌, ◌*◌, ◌/◌, ◌^◌, ◌≤◌}
use Rattle.sil_model.specs.Sizes.{states_of}
use Rattle.phase_separate.specs.Passes.{IsVisited}
use Rattle.phase_separate.specs.Products.{along_products, power_products}
use Rattle.phase_separate.specs.Rooms.{HaveSize}
use Rattle.phase_separate.specs.Subsystems.{powers_at}
use Rattle.phase_separate.proofs.phase.visit_all.Given as goal

abbrev pub invariant-loop-place : goal.invariant-loop-place
invariant-loop-place g l =
    let us = l.chain.of.subsystems in
    record {
      places : l.place ≤ l.initial.place;
      subsystems : l.subsystems ≡ powers_at l.chain (l.beats / 2 ^ l.place);
      visited : IsVisited l.chain (l.beats / 2 ^ l.place) l.start l.visited;
      buffers : HaveSize (states_of us) l.buffers;
      steps : l.steps + 2 * l.place * (along_products us + power_products us) ≤ l.fn.steps + 2 * l.initial.place * (along_products us + power_products us);
    }
