use Rattle.sil_watch.proofs.Lists.{on_error}
use Rattle.loop_value.proofs.Told.{fed_none}
use Rattle.loop_value.proofs.evaluating.compute.Goals as goal

pub evaluate-requires-clause-start : goal.evaluate-requires-clause-start
evaluate-requires-clause-start g c = rw c.in_ok-parts.ensures.order c.in_ok-parts.ensures.start

pub returns-clause-pfd : goal.returns-clause-pfd
returns-clause-pfd g c N o = c.in_ok-figures.ensures.pfd N (rw c.in_ok-parts.ensures.order o)

pub returns-clause-pfh : goal.returns-clause-pfh
returns-clause-pfh g c N o = c.in_ok-figures.ensures.pfh N (rw c.in_ok-parts.ensures.order o)

pub returns-clause-told : goal.returns-clause-told
returns-clause-told g c = rw c.in_ok-parts.ensures.order at c.in_ok-figures.ensures.told

pub returns-in_err-figures-clause-refused : goal.returns-in_err-figures-clause-refused
returns-in_err-figures-clause-refused g c = on_error c.from_residual-in_err-figures.result (rw c.in_ok-parts.ensures.order at c.in_err-figures.ensures.refused)

pub returns-in_err-parts-clause-refused : goal.returns-in_err-parts-clause-refused
returns-in_err-parts-clause-refused g c = on_error c.from_residual.result (fed_none c.args.l.now c.args.order c.args.asked _)

pub returns-clause-by_powers : goal.returns-clause-by_powers
returns-clause-by_powers g c = rw c.in_ok-parts.ensures.order at c.in_ok-figures.ensures.by_powers
