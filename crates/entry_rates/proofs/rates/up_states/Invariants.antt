use Rattle.std.proofs.Common.{◌≡◌, ℕ, ◌*◌, ◌<◌, length, get_or}
use Rattle.std.specs.Prelude.{Bool}
use Rattle.sil_model.specs.State.{is_up_of}
use Rattle.sil_model.specs.Sizes.{channel_states}
use Rattle.sil_model.specs.LoopValue.{groups_of}
use Rattle.lumped_laws.specs.StateOfCounts.{state_numbered}
use Rattle.entry_rates.proofs.rates.up_states.Given as goal

abbrev pub invariant-loop-i : goal.invariant-loop-i
invariant-loop-i l = record {
  counts : length l.counts.items ≡ channel_states * length (groups_of l.l.subsystems);
  number : length l.up.items ≡ l.i;
  up : (k : ℕ) (d : Bool) → k < l.i → get_or l.up.items k d ≡ is_up_of l.l.subsystems (state_numbered l.l.subsystems k);
}
