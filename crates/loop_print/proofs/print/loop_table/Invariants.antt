use Rattle.std.proofs.Common.{◌≡◌, map, take}
use Rattle.toml.specs.Data.{table}
use Rattle.toml.specs.View.{view}
use Rattle.loop_print.specs.Canonical.{subsystem_table}
use Rattle.loop_print.proofs.print.loop_table.Given as goal

abbrev pub invariant-loop-i : goal.invariant-loop-i
invariant-loop-i l = map view l.subsystems.items ≡ map (λ u. table (subsystem_table u)) (take l.i l.l.subsystems)
