use Rattle.sil_fraction.proofs.Laws.{add_comm, add_assoc, zero-add, mul_comm, mul_assoc, one-mul, zero-mul, mul-add, sub-add, mul-inverse}
use Rattle.sil_fraction.proofs.ring_laws.Goals as goal

pub returns : goal.returns
returns c = record {
  sums_commute = add_comm;
  sums_associate = add_assoc;
  zero_adds_nothing = zero-add;
  products_commute = mul_comm;
  products_associate = mul_assoc;
  one_times = one-mul;
  zero_times = zero-mul;
  products_distribute = mul-add;
  differences = sub-add;
  inverses = mul-inverse;
}
