use Rattle.loop_value.proofs.Told.{fed_none}
use Rattle.loop_value.proofs.evaluating.value.Goals as goal

-- the same fault
pub returns-in-Err-clause-too_many_tests : goal.returns-in-Err-clause-too_many_tests
returns-in-Err-clause-too_many_tests g c n =
    (λ e. (c.in-Err.ensures.too_many_tests n).0 (cc (c.in-Err.is, e)), λ h. cc (c.in-Err.is, (c.in-Err.ensures.too_many_tests n).1 h))

pub returns-in-Err-clause-too_many_states : goal.returns-in-Err-clause-too_many_states
returns-in-Err-clause-too_many_states g c n =
    (λ e. (c.in-Err.ensures.too_many_states n).0 (cc (c.in-Err.is, e)), λ h. cc (c.in-Err.is, (c.in-Err.ensures.too_many_states n).1 h))

pub returns-in-Err-clause-cut_short : goal.returns-in-Err-clause-cut_short
returns-in-Err-clause-cut_short g c a e = fed_none c.args.l.now c.args.order c.args.asked _
