use Rattle.std.proofs.Common.{◌≡◌, ◌+◌, ◌*◌, ◌^◌}
use Rattle.product_chain.specs.Kept.{ChainValue}
use Rattle.vector_laws.specs.Rows.{EachRowAtMost}
use Rattle.subsystem_power.specs.Rooms.{IsSparePower}
use Rattle.subsystem_power.proofs.matrices.make_sixteen.Given as goal

abbrev pub invariant-loop : goal.invariant-loop
invariant-loop g l = record {
  sixteen : l.sixteen.size ≡ l.fn.beat.size;
  product : l.product.size ≡ l.fn.beat.size;
  rows : EachRowAtMost l.sixteen (2 ^ 48);
  power : (c : ChainValue) → IsSparePower c 16 1 l.fn.beat → IsSparePower c 16 (2 ^ l.counter) l.sixteen;
  steps : l.steps ≡ l.fn.steps + l.counter * l.fn.beat.size ^ 3;
}
