use Rattle.std.proofs.Common.{◌≡◌, ◌-◌, ◌*◌}
use Rattle.sil_fraction.specs.Sum.{sum_below}
use Rattle.beat_ladder.specs.Powers.{at_place}
use Rattle.beat_ladder.proofs.square.square_number.Given as goal

abbrev pub invariant-loop-i : goal.invariant-loop-i
invariant-loop-i l = l.sum ≡ 2 * sum_below l.i (λ j. at_place l.numbers j * at_place l.numbers (l.k - j))
