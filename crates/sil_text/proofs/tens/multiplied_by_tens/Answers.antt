use Rattle.std.proofs.Common.{◌≡◌, ◌*◌, ◌^◌, arith, ap, ◌∙◌}
use Rattle.sil_text.proofs.TenPowers.{once_more, more_tens}
use Rattle.sil_text.proofs.tens.multiplied_by_tens.Goals as goal

pub loop-tens-preserved : goal.loop-tens-preserved
loop-tens-preserved c = ap (λ n. n * 10) c.loop-tens.invariant ∙ once_more c.args.number c.loop-tens._tens

pub returns-then-product-greatest : goal.returns-then-product-greatest
returns-then-product-greatest c = λ within.
    absurd (omega (arith, more_tens c.args.number c.loop-tens._tens c.args.times (omega arith), c.loop-tens.invariant))

pub returns-then-product-greatest-2 : goal.returns-then-product-greatest-2
returns-then-product-greatest-2 c = λ within.
    absurd (omega (arith, more_tens c.args.number c.loop-tens._tens c.args.times (omega arith), c.loop-tens.invariant))

pub returns : goal.returns
returns c =
    let whole : c.loop-tens.product ≡ c.args.number * 10 ^ c.args.times =
    c.loop-tens.invariant ∙ ap (λ k. c.args.number * 10 ^ k) (let e : c.loop-tens._tens ≡ c.args.times = omega arith in e) in
    (omega arith, whole)
