use Rattle.loop_file.proofs.Order.{keys_ascend-from}
use Rattle.loop_file.proofs.tree.members_in_order.Goals as goal

pub returns : goal.returns
returns c = keys_ascend-from c.args.table.now.entries c.iter.ensures.ordered
