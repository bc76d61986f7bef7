use Rattle.sil_watch.proofs.FixedBy.{line_fixed}
use Rattle.sil_watch.proofs.series.lines_fix_records.Goals as goal

pub returns : goal.returns
returns c = line_fixed
