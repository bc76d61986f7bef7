use Rattle.std.proofs.Common.{◌≡◌, ◌+◌, ◌*◌, ◌≤◌}
use Rattle.sil_model.specs.Budget.{beat_loss_of}
use Rattle.uniformise.specs.Beat.{beat_products}
use Rattle.phase_run.specs.Passes.{Passes}
use Rattle.phase_run.proofs.pass_beats.Given as goal

abbrev pub invariant-loop : goal.invariant-loop
invariant-loop g l = record {
  work : l.work ≡ l.fn.work;
  passes : Passes l.chain l.weights (beat_loss_of l.chain.of.subsystems l.weights) l.counter l.fn.v l.v l.fn.dwell l.dwell;
  counted : l.steps ≤ l.fn.steps + l.counter * beat_products l.chain.of.subsystems l.weights;
}
