use Rattle.std.proofs.Common.{◌+◌, arith}
use Rattle.lumping.proofs.Fours.{alike_at_first, none_at_first, pairs-next, triples-next}
use Rattle.lumping.proofs.group.split_triples.Goals as goal

pub loop-alike-init : goal.loop-alike-init
loop-alike-init c = record { whole = omega (arith, none_at_first 3); alike = alike_at_first; few = omega arith }

pub loop-alike-smaller : goal.loop-alike-smaller
loop-alike-smaller c = omega (arith, pairs-next c.loop-alike.sum)

pub loop-alike-preserved : goal.loop-alike-preserved
loop-alike-preserved c = record {
  whole = omega (arith, triples-next c.loop-alike.sum);
  alike = omega (arith, pairs-next (c.loop-alike.sum + 1));
  few = omega (arith, pairs-next c.loop-alike.sum);
}
