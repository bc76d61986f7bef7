use Rattle.loop_file.proofs.Walks.{pass_append, pass_cons, pass_none, refused_left, refused_right, refused_here, refused_later, passed, failed}
use Rattle.std.proofs.lemmas.Result.{err_from_is_err_and}
use Rattle.std.proofs.lemmas.Grind.{common_steps}
use Rattle.std.proofs.Common.{arith}
use Rattle.loop_file.proofs.plan.read_plan.Goals as goal

pub returns-in_err-check_keys : goal.returns-in_err-check_keys
returns-in_err-check_keys c =
    let p = err_from_is_err_and c.from_residual.result c.from_residual.ensures.1 in
    rw (p.1, p.2) (refused_left _ _ _ c.in_err-check_keys.ensures)

pub returns-in_err-every : goal.returns-in_err-every
returns-in_err-every c =
    let p = err_from_is_err_and c.from_residual-in_err-every.result c.from_residual-in_err-every.ensures.1 in
    rw (p.1, p.2) (refused_right _ _ _ c.in_ok-check_keys.ensures.0 (refused_here _ _ _ (failed _ _ _ _ c.required_whole.ensures c.in_err-every.ensures)))

pub returns-in_err-first : goal.returns-in_err-first
returns-in_err-first c =
    let p = err_from_is_err_and c.from_residual-in_err-first.result c.from_residual-in_err-first.ensures.1 in
    rw (p.1, p.2) (refused_right _ _ _ c.in_ok-check_keys.ensures.0 (refused_later _ _ _ (passed _ _ _ _ c.required_whole.ensures c.in_ok-every.ensures) (refused_here _ _ _ (failed _ _ _ _ c.whole.ensures c.in_err-first.ensures))))

pub returns-in_err-stagger : goal.returns-in_err-stagger
returns-in_err-stagger c =
    let p = err_from_is_err_and c.from_residual-in_err-stagger.result c.from_residual-in_err-stagger.ensures.1 in
    rw (p.1, p.2) (refused_right _ _ _ c.in_ok-check_keys.ensures.0 (refused_later _ _ _ (passed _ _ _ _ c.required_whole.ensures c.in_ok-every.ensures) (refused_later _ _ _ (passed _ _ _ _ c.whole.ensures c.in_ok-first.ensures) (refused_here _ _ _ (failed _ _ _ _ c.whole-2.ensures c.in_err-stagger.ensures)))))

pub returns-in_err-full_each : goal.returns-in_err-full_each
returns-in_err-full_each c =
    let p = err_from_is_err_and c.from_residual-in_err-full_each.result c.from_residual-in_err-full_each.ensures.1 in
    rw (p.1, p.2) (refused_right _ _ _ c.in_ok-check_keys.ensures.0 (refused_later _ _ _ (passed _ _ _ _ c.required_whole.ensures c.in_ok-every.ensures) (refused_later _ _ _ (passed _ _ _ _ c.whole.ensures c.in_ok-first.ensures) (refused_later _ _ _ (passed _ _ _ _ c.whole-2.ensures c.in_ok-stagger.ensures) (refused_here _ _ _ (failed _ _ _ _ c.whole-3.ensures c.in_err-full_each.ensures))))))

pub returns : goal.returns
returns c = (pass_append _ _ c.in_ok-check_keys.ensures.0 (pass_cons _ _ (passed _ _ _ _ c.required_whole.ensures c.in_ok-every.ensures) (pass_cons _ _ (passed _ _ _ _ c.whole.ensures c.in_ok-first.ensures) (pass_cons _ _ (passed _ _ _ _ c.whole-2.ensures c.in_ok-stagger.ensures) (pass_cons _ _ (passed _ _ _ _ c.whole-3.ensures c.in_ok-full_each.ensures) (pass_none))))), grind (arith, common_steps))
