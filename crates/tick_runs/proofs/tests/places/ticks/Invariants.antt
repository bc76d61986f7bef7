use Rattle.std.proofs.Common.{◌≡◌, ◌≤◌, ◌^◌, vec_len}
use Rattle.std.specs.Prelude.{sum}
use Rattle.place_chain.specs.PlaceChain.{IsWithin}
use Rattle.tick_runs.proofs.tests.places.ticks.Given as goal

abbrev pub invariant-loop : goal.invariant-loop
invariant-loop g l = record {
  size : vec_len l.v ≡ 800;
  mass : sum l.v.items ≤ 2 ^ 48;
  within : IsWithin l.reached-inside.places.items l.v.items;
}
