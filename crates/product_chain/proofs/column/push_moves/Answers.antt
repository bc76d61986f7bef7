use Rattle.std.proofs.Common.{arith}
use Rattle.product_chain.proofs.Turns.{entries-turn}
use Rattle.product_chain.proofs.column.push_moves.Goals as goal

pub loop-m-preserved : goal.loop-m-preserved
loop-m-preserved c = record {
  items =
      entries-turn c.args.rates.now c.args.moves.now c.loop-m.m-index (record { source = 0; target = 0; rate = 0 }) c.args.entries.now.items
      c.loop-m.entries.items c.push_entry.new.entries.items c.loop-m-test.true c.loop-m.invariant.items
      c.push_entry.ensures.items;
  capacity = omega arith;
  len = omega arith;
}
