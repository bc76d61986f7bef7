use Rattle.std.proofs.Common.{◌≡◌, ℕ, ◌<◌, get_or}
use Rattle.std.specs.Prelude.{false}
use Rattle.place_chain.specs.Marks.{is_marked}
use Rattle.place_chain.proofs.closure.mark_support.Given as goal

abbrev pub invariant-loop-i : goal.invariant-loop-i
invariant-loop-i l = record {
  all : (k : ℕ) → k < l.i → is_marked l.marks k ≡ false → get_or l.v k 0 ≡ 0;
  only : (k : ℕ) → k < l.i → get_or l.v k 0 ≡ 0 → is_marked l.marks k ≡ false;
}
