use Rattle.std.proofs.Common.{◌≡◌, ◌<◌, ◌-◌, ◌≢◌, length, refl, arith, get_or-set_other, get_or-set_same, inl, inr, ◌∙◌}
use Rattle.std.proofs.lemmas.Bool.{cases_lt}
use Rattle.std.proofs.Math.ListN.{length-set}
use Rattle.test_matrix.specs.Rows.{row_at}
use Rattle.test_matrix.proofs.Rows.{row_le, row_next, row_start}
use Rattle.test_matrix.proofs.weights.rows.Goals as goal

pub loop-m-init : goal.loop-m-init
loop-m-init c = record { room = refl; value = λ i k h l. let e : i ≡ 0 = omega arith in rw e (row_start c.args.fails c.args.stays k) }

pub next_row-requires-clause-entries : goal.next_row-requires-clause-entries
next_row-requires-clause-entries c =
    λ k h. rw (c.loop-m.invariant.value (c.loop-m.m - 1) k (omega arith) h) (row_le c.args.fails c.args.stays (c.loop-m.m - 1) k c.requires)

pub loop-m-preserved : goal.loop-m-preserved
loop-m-preserved c = record {
  room = rw length-set c.loop-m.invariant.room;
  value = λ i k h l. elim (cases_lt i c.loop-m.m) [
    | inl s ↦ let ne : i ≢ c.loop-m.m = omega arith in rw get_or-set_other (c.loop-m.invariant.value i k s l)
    | inr s ↦
        let e : i ≡ c.loop-m.m = omega arith in
        let lt : c.loop-m.m < length c.loop-m.rows = omega arith in
        rw (e, get_or-set_same) (c.next_row.ensures k (omega arith)
        ∙ row_next c.args.fails c.args.stays c.loop-m.m 9 k (row_at c.loop-m.rows (c.loop-m.m - 1)) (omega arith)
        l (λ k l. c.loop-m.invariant.value (c.loop-m.m - 1) k (omega arith) l))
  ];
}
