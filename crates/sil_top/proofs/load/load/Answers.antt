use Rattle.sil_top.proofs.Loading.{memory_after}
use Rattle.sil_top.proofs.load.load.Goals as goal

-- no memory for the line of the fault
pub returns : goal.returns
returns g c = memory_after _ _ _ _ _ _ _ _ _ c.in_ok-bytes.ensures c.in_ok-bytes.ensures.read
