use Rattle.std.proofs.Common.{◌≡◌, ◌*◌, drop}
use Rattle.sil_model.specs.Sizes.{channel_states}
use Rattle.sil_model.specs.Counts.{number_of}
use Rattle.lumping.proofs.space.number_over.Given as goal

abbrev pub invariant-loop-g : goal.invariant-loop-g
invariant-loop-g l = l.number ≡ number_of (drop l.g l.groups) (drop (channel_states * l.g) l.counts)
