use Rattle.std.proofs.Common.{◌≢◌, ◌-◌, ◌/◌, arith, ap, ◌∙◌, below_more}
use Rattle.std.proofs.lemmas.Grind.{common_steps}
use Rattle.sil_text.proofs.Figures.{shortened, leading, decimal18_from_digits}
use Rattle.sil_text.proofs.figure.put_decimal18.Goals as goal

pub loop-place-preserved : goal.loop-place-preserved
loop-place-preserved c = record {
  rest = ap (λ n. n / 10) c.loop-place.invariant.rest ∙ shortened c.args.v c.loop-place.place;
  point = grind (arith, common_steps);
  digits = below_more _ _
      (λ k h. let ne : 19 - k ≢ 19 - c.loop-place.place = omega arith in grind (arith, common_steps, c.loop-place.invariant.digits k h))
      (grind (arith, common_steps));
  twenty = grind (arith, common_steps);
}

pub returns : goal.returns
returns c = decimal18_from_digits _ _ c.requires
    (grind (arith, common_steps))
    (grind (arith, common_steps, leading c.args.v))
    (grind (arith, common_steps))
    (λ k h. grind (arith, common_steps, c.loop-place.invariant.digits k))
