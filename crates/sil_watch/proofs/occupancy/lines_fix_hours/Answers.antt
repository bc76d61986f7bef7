use Rattle.sil_watch.proofs.FixedBy.{hours_fixed}
use Rattle.sil_watch.proofs.occupancy.lines_fix_hours.Goals as goal

pub returns : goal.returns
returns c = hours_fixed
