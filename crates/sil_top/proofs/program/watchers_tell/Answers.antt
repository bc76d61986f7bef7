use Rattle.sil_top.proofs.Watchers.{watchers_tell}
use Rattle.sil_top.proofs.program.watchers_tell.Goals as goal

pub returns : goal.returns
returns c = watchers_tell
