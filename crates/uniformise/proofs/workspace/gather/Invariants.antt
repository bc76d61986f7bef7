use Rattle.std.proofs.Common.{◌≡◌, ◌+◌, ◌*◌, ◌≤◌, vec_len}
use Rattle.sil_model.specs.Sizes.{states_of}
use Rattle.sil_model.specs.WeightTable.{weight_of, mean_weight_of}
use Rattle.vector_laws.specs.Block.{IsTicked, IsGathered}
use Rattle.uniformise.specs.Beat.{IsStep, tick_loss, tick_products}
use Rattle.uniformise.proofs.workspace.gather.Given as goal

abbrev pub invariant-loop-k : goal.invariant-loop-k
invariant-loop-k g l = record {
  now : vec_len l.now ≡ vec_len l.fn.now;
  next : vec_len l.next ≡ vec_len l.fn.next;
  ticked : IsTicked (IsStep l.chain) (tick_loss l.chain.of.subsystems) l.fn.now.items l.now.items l.k;
  ends : IsGathered (IsStep l.chain) (tick_loss l.chain.of.subsystems) l.fn.now.items l.ends weight_of l.k;
  stays : IsGathered (IsStep l.chain) (tick_loss l.chain.of.subsystems) l.fn.now.items l.stays (mean_weight_of l.weights) l.k;
  counted : l.steps ≤ l.fn.steps + l.k * (tick_products l.chain.of.subsystems + 2 * states_of l.chain.of.subsystems);
}
