use Rattle.std.proofs.Common.{refl}
use Rattle.common_cause.specs.Shares.{share_in}
use Rattle.common_cause.proofs.Shares.{share-law}
use Rattle.common_cause.proofs.share.share_in.Goals as goal

pub returns : goal.returns
unfolding share_in
returns c = record { parts = refl; share = share-law c.args.u.now c.args.in_repair }
