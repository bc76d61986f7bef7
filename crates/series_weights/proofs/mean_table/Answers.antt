use Rattle.std.proofs.Common.{◌≡◌, ◌+◌, ◌-◌, ◌<◌, ◌≢◌, length, slice_index, refl, sym, ap, arith, inl, inr, get_or-set_other, get_or-set_same}
use Rattle.std.proofs.Math.ListN.{length-set}
use Rattle.std.proofs.lemmas.Bool.{cases_lt}
use Rattle.sil_model.specs.WeightTable.{weight_of, mean_weight_of}
use Rattle.series_weights.proofs.Sums.{mean_last, mean_next, mean_le}
use Rattle.series_weights.proofs.mean_table.Goals as goal

pub loop-k-init : goal.loop-k-init
loop-k-init c = record { room = refl; above = sym (mean_last c.args.order c.args.order (omega arith)); made = λ i h g. absurd (omega arith) }

-- the running sum with one weight more
more : (c : goal.After-above-1) → c.loop-k.above + slice_index c.args.weights.now (c.loop-k.k - 1 + 1) ≡ mean_weight_of c.args.order (c.loop-k.k - 1)
more c =
    let e : c.loop-k.k - 1 + 1 ≡ c.loop-k.k = omega arith in
    let n : mean_weight_of c.args.order (c.loop-k.k - 1) ≡ weight_of (c.loop-k.k - 1 + 1) + mean_weight_of c.args.order (c.loop-k.k - 1 + 1) = mean_next c.args.order (c.loop-k.k - 1) (omega arith) in
    let m : mean_weight_of c.args.order (c.loop-k.k - 1 + 1) ≡ mean_weight_of c.args.order c.loop-k.k = ap (mean_weight_of c.args.order) e in
    omega (arith, n, m, c.loop-k.invariant.above, c.requires.weights (c.loop-k.k - 1 + 1) (omega (arith, c.requires.order)))

pub overflow_add-above-in-loop-k : goal.overflow_add-above-in-loop-k
overflow_add-above-in-loop-k c = omega (arith, more c, mean_le c.args.order (c.loop-k.k - 1) c.requires.order)

pub loop-k-preserved : goal.loop-k-preserved
loop-k-preserved c = record {
  room = rw length-set c.loop-k.invariant.room;
  above = more c;
  made = λ i h g.
      elim (cases_lt (c.loop-k.k - 1) i) [
        | inl p ↦ let ne : i ≢ c.loop-k.k - 1 = omega arith in rw get_or-set_other (c.loop-k.invariant.made i (omega arith) g)
        | inr p ↦
            let e : i ≡ c.loop-k.k - 1 = omega arith in
            let lt : c.loop-k.k - 1 < length c.loop-k.table = omega (arith, c.loop-k.invariant.room, c.requires.order) in
            rw (e, get_or-set_same) (more c)
      ];
}
