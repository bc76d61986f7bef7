use Rattle.std.proofs.Common.{◌≡◌, ◌<◌, length, arith, ap, ◌∙◌}
use Rattle.product_chain.proofs.Joins.{at_read, at_push}
use Rattle.product_chain.proofs.step.add_step.Goals as goal

pub returns-then-i-len : goal.returns-then-i-len
returns-then-i-len c =
    let h : c.joining-i.result < length c.args.steps.now.items = omega (arith, c.as_slice.ensures.len, c.len.ensures, ap length c.as_slice.ensures.value) in
    at_read c.args.steps.now.items c.joining-i.result c.index_mut.result.now c.args.step c.index_mut.ensures.value h
    (rw c.as_slice.ensures.value at c.joining-i.ensures.joined)

pub returns-in_ok-push : goal.returns-in_ok-push
returns-in_ok-push c =
    let h : c.joining-i.result ≡ length c.args.steps.now.items =
    omega (arith, c.as_slice.ensures.len, c.len.ensures, c.joining-i.ensures.within, ap length c.as_slice.ensures.value) in
    c.in_ok-push.ensures.items ∙ at_push c.args.steps.now.items c.joining-i.result c.args.step h (rw c.as_slice.ensures.value at c.joining-i.ensures.joined)
