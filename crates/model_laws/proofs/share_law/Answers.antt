use Rattle.model_laws.proofs.Shares.{repair_rate-by_number, share-some, share-at_most_one}
use Rattle.model_laws.proofs.share_law.Goals as goal

pub returns : goal.returns
returns c = record { by_number = repair_rate-by_number; some = share-some; at_most_one = share-at_most_one }
