use Rattle.lumping.proofs.Moves.{IsCounts-moved_in}
use Rattle.lumping.proofs.moving_law.Goals as goal

pub returns : goal.returns
returns c = IsCounts-moved_in
