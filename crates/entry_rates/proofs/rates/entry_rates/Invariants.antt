use Rattle.std.proofs.Common.{◌≡◌, ℕ, ◌*◌, ◌<◌, length, get_or}
use Rattle.sil_model.specs.Sizes.{channel_states}
use Rattle.sil_model.specs.LoopValue.{groups_of}
use Rattle.sil_model.specs.Counts.{counts_numbered}
use Rattle.entry_rates.specs.Entered.{entered_from}
use Rattle.entry_rates.proofs.rates.entry_rates.Given as goal

abbrev pub invariant-loop-i : goal.invariant-loop-i
invariant-loop-i l = record {
  counts : length l.counts.items ≡ channel_states * length (groups_of l.l.subsystems);
  after : length l.after.items ≡ channel_states * length (groups_of l.l.subsystems);
  number : length l.rates.items ≡ l.i;
  rates : (k : ℕ) → k < l.i → get_or l.rates.items k 0 ≡ entered_from l.l.subsystems (counts_numbered (groups_of l.l.subsystems) k);
}
