use Rattle.sil_watch.proofs.FixedBy.{peak_fixed}
use Rattle.sil_watch.proofs.peak.lines_fix_peaks.Goals as goal

pub returns : goal.returns
returns c = peak_fixed
