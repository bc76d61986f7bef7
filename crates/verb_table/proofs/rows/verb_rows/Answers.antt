use Rattle.std.proofs.Common.{ap, map}
use Rattle.verb_table.specs.Rows.{seen_row}
use Rattle.verb_table.specs.Table.{verb_table}
use Rattle.verb_table.proofs.rows.verb_rows.Goals as goal

pub returns : goal.returns
unfolding verb_table
returns c = ap (map seen_row) c.as_slice.ensures
