use Rattle.std.proofs.Common.{◌≡◌, ◌≢◌, ◌<◌, length, ◌∙◌, arith, get_or-set_other, get_or-set_same, inl, inr}
use Rattle.std.proofs.lemmas.Bool.{cases_lt}
use Rattle.phase_powers.proofs.matrices.dwell_of.Goals as goal

pub loop-j-preserved : goal.loop-j-preserved
loop-j-preserved g c =
    let inside : c.loop-j.j < length c.loop-j.to = omega (arith, c.loop-j.auto.to, c.requires.to, c.size-j-end.ensures.size) in
    record {
      floors = λ k h. elim (cases_lt k c.loop-j.j) [
        | inl before ↦ let ne : k ≢ c.loop-j.j = omega arith in get_or-set_other c.loop-j.to _ _ _ 0 ne ∙ c.loop-j.invariant.floors k before
        | inr after ↦ let e : k ≡ c.loop-j.j = omega arith in rw e (get_or-set_same c.loop-j.to c.loop-j.j _ 0 inside ∙ c.row_product_down.ensures.floor)
      ];
      steps = omega (arith, c.row_product_down.ensures.steps, c.loop-j.invariant.steps);
    }
