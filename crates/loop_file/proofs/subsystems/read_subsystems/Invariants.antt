use Rattle.std.proofs.Common.{◌≡◌, map, take}
use Rattle.toml.specs.View.{table_view}
use Rattle.loop_file.specs.LoopFile.{given_by, subsystem_checks, subsystem_of, names_before, entry_of}
use Rattle.loop_file.specs.Walk.{checks_below, Pass}
use Rattle.loop_file.proofs.subsystems.read_subsystems.Given as goal

abbrev pub invariant-loop-i : goal.invariant-loop-i
invariant-loop-i l =
    let us = map (λ t. table_view t.now) l.tables in
    let find = given_by (map (λ k. k.now) l.types.names.keys) l.types.given.items in
    record {
      pass : Pass (checks_below (λ i. subsystem_checks find i (names_before us i) (entry_of us i)) l.i);
      names : map (λ k. k.now) l.names.keys ≡ names_before us l.i;
      subsystems : l.subsystems.items ≡ map (subsystem_of find) (take l.i us);
    }
