use Rattle.std.proofs.Common.{◌≤◌, length, vec_capacity}
use Rattle.place_chain.proofs.Listed.{AreListed}
use Rattle.place_chain.proofs.compact.list_places.Given as goal

abbrev pub invariant-loop-i : goal.invariant-loop-i
invariant-loop-i l = record {
  listed : AreListed l.marks l.i l.places.items l.ranks;
  room : length l.marks ≤ vec_capacity l.places;
}
