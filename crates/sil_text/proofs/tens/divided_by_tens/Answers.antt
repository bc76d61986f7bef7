use Rattle.std.proofs.Common.{◌≡◌, ◌*◌, ◌%◌, ◌^◌, arith, ap, ◌∙◌}
use Rattle.sil_text.proofs.TenPowers.{once_less, nothing_left_over}
use Rattle.sil_text.proofs.tens.divided_by_tens.Goals as goal

pub loop-tens-preserved : goal.loop-tens-preserved
loop-tens-preserved c = once_less c.args.number c.loop-tens.quotient c.loop-tens._tens c.loop-tens.invariant (omega arith)

pub returns-then-quotient-ne0-clause-none : goal.returns-then-quotient-ne0-clause-none
returns-then-quotient-ne0-clause-none c = λ whole all.
    let none : c.loop-tens.quotient % 10 ≡ 0 =
    nothing_left_over c.args.number c.loop-tens.quotient c.loop-tens._tens whole c.args.times (omega arith) c.loop-tens.invariant all in
    absurd (omega arith)

pub returns-clause-some : goal.returns-clause-some
returns-clause-some c =
    c.loop-tens.invariant ∙ ap (λ k. c.loop-tens.quotient * 10 ^ k) (let e : c.loop-tens._tens ≡ c.args.times = omega arith in e)
