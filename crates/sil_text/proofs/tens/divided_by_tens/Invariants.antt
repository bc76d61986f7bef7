use Rattle.std.proofs.Common.{◌≡◌, ◌*◌, ◌^◌}
use Rattle.sil_text.proofs.tens.divided_by_tens.Given as goal

abbrev pub invariant-loop-tens : goal.invariant-loop-tens
invariant-loop-tens l = l.number ≡ l.quotient * 10 ^ l._tens
