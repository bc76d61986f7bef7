use Rattle.std.proofs.Common.{refl}
use Rattle.verb_table.specs.Table.{verb_table}
use Rattle.verb_table.specs.Usage.{usage_text}
use Rattle.verb_table.proofs.usage.usage_text.Goals as goal

pub returns : goal.returns
unfolding usage_text verb_table
returns c = refl
