use Rattle.std.proofs.Common.{◌≡◌, ◌*◌, ◌++◌, drop, take}
use Rattle.sil_model.specs.Sizes.{channel_states}
use Rattle.sil_model.specs.Counts.{counts_numbered}
use Rattle.lumping.proofs.space.write_counts.Given as goal

abbrev pub invariant-loop-g : goal.invariant-loop-g
invariant-loop-g l = take (channel_states * l.g) l.counts ++ counts_numbered (drop l.g l.groups) l.rest ≡ counts_numbered l.groups l.i
