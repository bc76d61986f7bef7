-- The first bytes, and no others, were appended, and only what was left of the text was offered.
use Rattle.std.proofs.Common.{length, ◌-◌, ◌≡◌, ◌≤◌, ◌<◌, ◌++◌, take, IsTrue, false}
use Rattle.sil_io.proofs.Logs.{OffersBelow}
use Rattle.sil_io.proofs.writing.write_whole.Given as goal

abbrev pub invariant-loop-done : goal.invariant-loop-done
invariant-loop-done g l = record {
  in_range : l.done ≤ length l.bytes;
  sent : IsTrue g.K.Sink.tells → g.K.Sink.written l.sink ≡ g.K.Sink.written l.initial.sink ++ take l.done l.bytes;
  taken : g.K.Sink.taken l.sink ≡ g.K.Sink.taken l.initial.sink ++ take l.done l.bytes;
  begun : l.done ≡ 0 → l.sink ≡ l.initial.sink;
  offered : 0 < l.done → OffersBelow l.done l.bytes (g.K.Sink.offered l.initial.sink) (g.K.Sink.offered l.sink);
  over : 0 < l.done → g.K.Sink.stalled l.sink ≡ false;
  noted : 0 < l.done → g.K.Sink.failed l.sink ≡ false;
  whole : 0 < l.done → length l.bytes ≤ g.K.Sink.room l.initial.sink → l.done ≡ length l.bytes;
  no_fault : g.K.Sink.faults l.sink ≡ g.K.Sink.faults l.initial.sink;
}

abbrev pub decreases-loop-done : goal.decreases-loop-done
decreases-loop-done g l = length l.bytes - l.done
