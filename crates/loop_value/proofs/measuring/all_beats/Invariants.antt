use Rattle.std.proofs.Common.{◌≡◌, ◌*◌, ◌≤◌, take}
use Rattle.loop_value.proofs.Beats.{beats_over}
use Rattle.loop_value.proofs.measuring.all_beats.Given as goal

abbrev pub invariant-loop-i : goal.invariant-loop-i
invariant-loop-i l = record {
  beats : l.beats ≡ beats_over l.l.subsystems (take l.i l.plan.phases);
  bounded : l.beats ≤ l.i * 17_000_000;
}
