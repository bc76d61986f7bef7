use Rattle.sil_watch.proofs.Peaks.{peaks_keep_greatest}
use Rattle.sil_watch.proofs.peak.peaks_keep_greatest.Goals as goal

pub returns : goal.returns
returns c = peaks_keep_greatest
