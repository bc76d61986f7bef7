-- The bytes that were handed out are those at the front of the buffer, and those that were left are they and those that
-- are left now.
use Rattle.std.proofs.Common.{◌≡◌, ℕ, ◌+◌, ◌≤◌, ◌++◌, List, take, vec_len, IsTrue}
use Rattle.sil_io.specs.Handed.{handed_more}
use Rattle.sil_io.proofs.reading.read_to_limit.Given as goal

abbrev pub invariant-loop : goal.invariant-loop
invariant-loop g l = record {
  counted : l.counter ≤ l.filled;
  in_range : l.filled ≤ l.limit + 1;
  room : vec_len l.bytes ≡ l.limit + 1;
  taken : IsTrue g.S.Shelf.tells → g.S.Shelf.left l.initial.shelf ≡ take l.filled l.bytes.items ++ g.S.Shelf.left l.shelf;
  handed : g.S.Shelf.handed l.shelf ≡ handed_more (g.S.Shelf.handed l.initial.shelf) (take l.filled l.bytes.items);
  picked_stays : g.S.Shelf.picked l.shelf ≡ g.S.Shelf.picked l.initial.shelf;
  files_stay : IsTrue g.S.Shelf.tells → (name : List ℕ) → g.S.Shelf.file l.shelf name ≡ g.S.Shelf.file l.initial.shelf name;
  tried_stay : g.S.Shelf.tried l.shelf ≡ g.S.Shelf.tried l.initial.shelf;
  failed_stays : g.S.Shelf.failed l.shelf ≡ g.S.Shelf.failed l.initial.shelf;
  calm_stays : g.S.Shelf.calm l.initial.shelf → g.S.Shelf.calm l.shelf;
  no_fault : g.S.Shelf.faults l.shelf ≡ g.S.Shelf.faults l.initial.shelf;
}
