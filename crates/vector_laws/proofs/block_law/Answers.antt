use Rattle.std.proofs.Common.{◌≡◌}
use Rattle.vector_laws.proofs.Blocks.{block_law}
use Rattle.vector_laws.proofs.block_law.Goals as goal

pub returns : goal.returns
returns c T loss order m n numbers v stays = block_law (λ S. S ≡ T) loss v order m n numbers stays
