use Rattle.sil_watch.proofs.Hours.{hours_add_up}
use Rattle.sil_watch.proofs.occupancy.hours_add_up.Goals as goal

pub returns : goal.returns
returns c = hours_add_up
