use Rattle.product_chain.proofs.Parts.{AreStarts}
use Rattle.product_chain.proofs.moves.starts_of.Given as goal

abbrev pub invariant-loop-j : goal.invariant-loop-j
invariant-loop-j l = AreStarts l.moves l.j l.end l.starts.items
