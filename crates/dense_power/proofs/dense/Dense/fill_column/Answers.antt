use Rattle.std.proofs.Common.{◌≡◌, ◌*◌, ◌/◌, ◌^◌, slice_index, ap, ◌∙◌, arith, inl, inr}
use Rattle.std.proofs.lemmas.Bool.{cases_lt}
use Rattle.sil_fraction.specs.Sum.{sum_below}
use Rattle.vector_laws.specs.Matrix.{entry_of}
use Rattle.dense_power.proofs.Products.{sum-same_row}
use Rattle.dense_power.proofs.dense.Dense.fill_column.Goals as goal

pub loop-i-preserved : goal.loop-i-preserved
loop-i-preserved g c =
    let size : c.loop-i.self.size ≡ c.args.self.now.size = c.loop-i.invariant.size in
    let here : entry_of c.set.new.self c.loop-i.i c.args.j
    ≡ sum_below c.args.self.now.size (λ k. entry_of c.args.a.now c.loop-i.i k * slice_index c.args.column.now k) / 2 ^ 48 =
    c.set.ensures.entry ∙ c.product_down.ensures.floor
    ∙ ap (λ s. s / 2 ^ 48) (sum-same_row _ _ _ _ (λ k. slice_index c.args.column.now k) (c.row.ensures.length ∙ c.requires.a_size)
    (λ k h. c.row.ensures.entries k (omega (arith, c.requires.a_size)))) in
    record {
      size = c.set.ensures.size ∙ size;
      filled = λ r h. elim (cases_lt r c.loop-i.i) [
        | inl before ↦ c.set.ensures.others r c.args.j (omega (arith, size, c.requires.j)) (inl (λ e. absurd (omega (arith, e))))
            ∙ c.loop-i.invariant.filled r before
        | inr after ↦ let e : r ≡ c.loop-i.i = omega arith in rw e here
      ];
      others = λ r k h differ. c.set.ensures.others r k (omega (arith, size)) (inr differ) ∙ c.loop-i.invariant.others r k h differ;
      steps = omega (arith, c.product_down.ensures.steps, c.row.ensures.length, c.requires.a_size, c.loop-i.invariant.steps);
    }
