use Rattle.std.proofs.Common.{◌≡◌, ℕ, ◌<◌, length, get_or}
use Rattle.place_chain.specs.PlaceChain.{IsElsewhere}
use Rattle.place_chain.proofs.chain.put_at.Given as goal

abbrev pub invariant-loop-k : goal.invariant-loop-k
invariant-loop-k l = record {
  each : (i : ℕ) → i < l.k → get_or l.v (get_or l.places i 0) 0 ≡ get_or l.small i 0;
  none : (i : ℕ) → i < length l.v → IsElsewhere l.places i → get_or l.v i 0 ≡ 0;
}
