use Rattle.std.proofs.Common.{◌∙◌, sym}
use Rattle.sil_watch.proofs.Peaks.{peak-takes, peak-keeps}
use Rattle.sil_watch.proofs.peak.PeakWatcher.phase.Goals as goal

pub returns-then-is_exceeded-clause-taken : goal.returns-then-is_exceeded-clause-taken
returns-then-is_exceeded-clause-taken c = peak-takes c.args.self.now c.args.rec.now (sym c.is_exceeded.ensures ∙ c.if-is_exceeded.true)

pub returns-else-is_exceeded-clause-taken : goal.returns-else-is_exceeded-clause-taken
returns-else-is_exceeded-clause-taken c = peak-keeps c.args.self.now c.args.rec.now (sym c.is_exceeded.ensures ∙ c.if-is_exceeded.false)
