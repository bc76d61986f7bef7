use Rattle.sil_fraction.proofs.Laws.{le_refl, le_trans, le_antisymm, le_total, zero-le, mul-le-mul, add-le-cancel_right}
use Rattle.sil_fraction.proofs.Sums.{add-le-add}
use Rattle.sil_fraction.proofs.order_laws.Goals as goal

pub returns : goal.returns
returns c = record {
  reflexive = le_refl;
  transitive = le_trans;
  antisymmetric = le_antisymm;
  total_order = le_total;
  none_below_zero = zero-le;
  sums_keep_it = add-le-add;
  products_keep_it = mul-le-mul;
  sums_cancel = add-le-cancel_right;
}
