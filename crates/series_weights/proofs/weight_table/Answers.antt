use Rattle.std.proofs.Common.{◌≡◌, ◌-◌, ◌/◌, ◌<◌, ◌≢◌, length, refl, arith, sym, ap, ◌∙◌, get_or-set_other, get_or-set_same, below_more}
use Rattle.std.proofs.Math.ListN.{length-set}
use Rattle.series_weights.proofs.Sums.{weight_at, first_is}
use Rattle.series_weights.proofs.weight_table.Goals as goal

pub loop-k-init : goal.loop-k-init
loop-k-init c = record { room = refl; made = λ i h. let e : i ≡ 0 = omega arith in rw (e, first_is) refl }

pub loop-k-preserved : goal.loop-k-preserved
loop-k-preserved c = record {
  room = rw length-set c.loop-k.invariant.room;
  made = below_more _ _
      (λ i h. let ne : i ≢ c.loop-k.k = omega arith in rw get_or-set_other (c.loop-k.invariant.made i h))
      (let lt : c.loop-k.k < length c.loop-k.table = omega arith in
      rw get_or-set_same (ap (λ n. n / c.loop-k.k) (c.loop-k.invariant.made (c.loop-k.k - 1) (omega arith)) ∙ sym (weight_at c.loop-k.k (omega arith))));
}
