use Rattle.std.proofs.Common.{◌≡◌, ◌+◌, ◌≤◌, ◌++◌, take, vec_len, vec_capacity}
use Rattle.place_chain.specs.Places.{compacted}
use Rattle.place_chain.proofs.compact.push_column.Given as goal

abbrev pub invariant-loop-entry : goal.invariant-loop-entry
invariant-loop-entry l = record {
  items : l.entries.items ≡ l.initial.entries.items ++ compacted l.marks l.ranks (take l.entry-index l.column);
  capacity : vec_capacity l.initial.entries ≤ vec_capacity l.entries;
  len : vec_len l.entries ≤ vec_len l.initial.entries + l.entry-index;
}
