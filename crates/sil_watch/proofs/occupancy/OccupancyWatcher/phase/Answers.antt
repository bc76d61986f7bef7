use Rattle.sil_watch.proofs.Hours.{hours-more}
use Rattle.sil_watch.proofs.occupancy.OccupancyWatcher.phase.Goals as goal

pub returns-clause-taken : goal.returns-clause-taken
returns-clause-taken c =
    hours-more c.args.self.now c.args.rec.now c.self.inside.hours c.pfd_band.result c.place_of-place.result c.saturating_add.result
    c.self.view_is c.pfd_band.ensures c.place_of-place.ensures.is c.saturating_add.ensures
