use Rattle.std.proofs.Common.{◌≡◌, ◌*◌, ◌/◌, ◌^◌, slice_index, refl, sym, ap, ◌∙◌, arith}
use Rattle.sil_fraction.specs.Sum.{sum_below}
use Rattle.sil_fraction.proofs.Sums.{sum-none}
use Rattle.vector_laws.specs.Matrix.{entry_of}
use Rattle.dense_power.proofs.Products.{sum_more, sum-same_column, product_within}
use Rattle.dense_power.proofs.dense.Dense.row_product_down.Given.{Over}
use Rattle.dense_power.proofs.dense.Dense.row_product_down.Goals as goal

pub loop-k-init : goal.loop-k-init
loop-k-init g c = record {
  sum = c.new-product.ensures.sum ∙ sym (sum-none _);
  number = c.new-product.ensures.number;
  steps = omega arith;
}

pub loop-k-preserved : goal.loop-k-preserved
loop-k-preserved g c = record {
  sum = sum_more _ _ _ c.loop-k.k _ c.loop-k.invariant.sum c.add_product.ensures.sum (rw c.from.ensures refl);
  number = omega (arith, c.add_product.ensures.number, c.loop-k.invariant.number);
  steps = omega (arith, c.add_product.ensures.steps, c.loop-k.invariant.steps);
}

floor : (g : Over) (c : goal.After-down g) → c.down.result ≡ sum_below c.args.self.now.size (λ k. slice_index c.args.row.now k * entry_of c.args.self.now k c.args.j) / 2 ^ 48
floor g c =
    c.down.ensures.floor
    ∙ ap (λ s. s / 2 ^ 48) (c.loop-k.invariant.sum
    ∙ sum-same_column _ _ (λ k. slice_index c.args.row.now k) _ _ (omega (arith, c.size-k-end.ensures.size)) (λ k h. c.column-column.ensures k h))

pub returns-clause-floor : goal.returns-clause-floor
returns-clause-floor g c = floor g c

pub returns-clause-within : goal.returns-clause-within
returns-clause-within g c = λ entries.
    rw (floor g c) (product_within c.args.self.now.size (slice_index c.args.row.now) (λ k. entry_of c.args.self.now k c.args.j)
    (omega (arith, c.size-k-end.ensures.size, c.size-k-end.ensures.few)) (λ k h. c.requires.row_small k (omega (arith, c.requires.row)))
    (λ k h. entries.entry k c.args.j h c.requires.j))
