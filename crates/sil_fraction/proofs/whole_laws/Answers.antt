use Rattle.sil_fraction.proofs.Laws.{whole-add, whole-mul, whole-le, le-whole, ratio-same, ratio-le-ratio, le_from_ratio-le}
use Rattle.sil_fraction.proofs.whole_laws.Goals as goal

pub returns : goal.returns
returns c = record {
  sums = whole-add;
  products = whole-mul;
  keep_order = whole-le;
  show_order = le-whole;
  same_quotient = ratio-same;
  quotient_keeps_order = ratio-le-ratio;
  quotient_shows_order = le_from_ratio-le;
}
