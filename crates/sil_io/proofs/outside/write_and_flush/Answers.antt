use Rattle.sil_io.proofs.Writers.{anyway, front-none, front-kept}
use Rattle.sil_io.proofs.outside.write_and_flush.Goals as goal

-- the write failed
pub returns-in_err-count-clause-part_written : goal.returns-in_err-count-clause-part_written
returns-in_err-count-clause-part_written g c = anyway _ _ (front-none _ _ c.args.bytes.now c.in_err-count.ensures.bytes)

-- the flush failed
pub returns-in_err-flush-clause-part_written : goal.returns-in_err-flush-clause-part_written
returns-in_err-flush-clause-part_written g c =
    anyway _ _ (front-kept _ _ _ c.args.bytes.now c.in_ok-count.count c.in_ok-count.ensures.bytes c.in_err-flush.ensures.bytes)
