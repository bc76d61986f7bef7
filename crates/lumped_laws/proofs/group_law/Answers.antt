use Rattle.lumped_laws.proofs.GroupChannels.{group_laws}
use Rattle.lumped_laws.proofs.group_law.Goals as goal

pub returns : goal.returns
returns c = group_laws
