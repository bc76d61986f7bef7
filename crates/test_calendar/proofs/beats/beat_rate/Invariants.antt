use Rattle.std.proofs.Common.{◌≡◌, ◌*◌, ◌≤◌, take}
use Rattle.sil_model.specs.Calendar.{beat_rate_of}
use Rattle.test_calendar.proofs.beats.beat_rate.Given as goal

abbrev pub invariant-loop-i : goal.invariant-loop-i
invariant-loop-i l = record {
  rate : l.rate ≡ beat_rate_of (take l.i l.l.subsystems);
  bounded : l.rate ≤ l.i * 8_016_000_000_000;
}
