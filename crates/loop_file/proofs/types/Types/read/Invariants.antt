use Rattle.std.proofs.Common.{◌≡◌, map, take, false}
use Rattle.toml.specs.View.{table_view}
use Rattle.loop_file.specs.LoopFile.{type_entry_checks, names_before, given_of, no_given}
use Rattle.loop_file.specs.Walk.{checks_below, Pass}
use Rattle.loop_file.proofs.types.Types.read.Given as goal

abbrev pub invariant-loop-i : goal.invariant-loop-i
invariant-loop-i l = let ts = map (λ t. table_view t.now) l.tables in record {
  pass : Pass (checks_below (type_entry_checks ts) l.i);
  names : map (λ k. k.now) l.names.keys ≡ names_before ts l.i;
  given : l.given.items ≡ map (given_of false no_given) (take l.i ts);
}
