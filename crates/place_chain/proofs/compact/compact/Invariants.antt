use Rattle.std.proofs.Common.{◌≡◌, ◌+◌, ◌≤◌, ◌<◌, length, get_or, vec_len, vec_capacity}
use Rattle.place_chain.proofs.Begun.{AreBegun}
use Rattle.place_chain.proofs.compact.compact.Given as goal

abbrev pub invariant-loop-place : goal.invariant-loop-place
invariant-loop-place l = record {
  begun : AreBegun l.marks l.ranks l.places l.all.starts.now l.all.entries.now l.place-index l.starts.items l.entries.items;
  here : l.place-index < length l.places → vec_len l.entries ≤ get_or l.all.starts.now (get_or l.places l.place-index 0) 0;
  few : vec_len l.entries ≤ length l.all.entries.now;
  room : vec_capacity l.initial.entries ≤ vec_capacity l.entries;
  starts_room : vec_capacity l.initial.starts ≤ vec_capacity l.starts;
  starts_len : vec_len l.starts ≡ l.place-index + 1;
}
