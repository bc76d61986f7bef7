use Rattle.std.proofs.Common.{arith}
use Rattle.lumping.proofs.Fours.{list_number-four}
use Rattle.lumping.proofs.group.number_in_group.Goals as goal

pub returns : goal.returns
returns c = list_number-four c.args.counts.now _ _ _ _ _ c.requires.each (omega arith) (omega arith) (omega arith) c.triples_below.ensures.triples c.pairs_below.ensures.pairs
