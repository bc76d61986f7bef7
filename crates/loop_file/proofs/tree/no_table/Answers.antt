use Rattle.std.proofs.Common.{inr, ap}
use Rattle.file_fault.specs.declared.FileFault.TheVariants.{WrongKind}
use Rattle.loop_file.proofs.tree.no_table.Goals as goal

pub returns-in-Ok : goal.returns-in-Ok
returns-in-Ok c = inr (ap WrongKind c.in-Ok.ensures)
