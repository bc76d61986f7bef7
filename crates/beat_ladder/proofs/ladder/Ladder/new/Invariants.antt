use Rattle.std.proofs.Common.{◌≡◌, ◌+◌, ◌^◌, ◌≤◌, vec_len}
use Rattle.beat_ladder.specs.Rungs.{AreRungs}
use Rattle.beat_ladder.proofs.ladder.Ladder.new.Given as goal

abbrev pub invariant-loop-exponent : goal.invariant-loop-exponent
invariant-loop-exponent l = record {
  len : vec_len l.rungs ≡ l.exponent + 1;
  held : AreRungs l.rungs.items;
  needed : 2 ^ l.exponent ≤ l.beats;
}
