use Rattle.sil_fraction.proofs.Sums.{below-add, mul-below, below-le, below-append, below-swap, total-append}
use Rattle.sil_fraction.proofs.finite_sum_laws.Goals as goal

pub returns : goal.returns
returns c = record {
  of_sums = below-add;
  scaled = mul-below;
  term_by_term = below-le;
  split_at = below-append;
  exchanged = below-swap;
  of_lists = total-append;
}
