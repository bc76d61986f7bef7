use Rattle.std.proofs.Common.{[], ◌∷◌}
use Rattle.std.proofs.lemmas.Result.{err_from_is_err_and}
use Rattle.loop_file.proofs.Walks.{pass_cons, pass_none, refused_left, refused_right, read_passes, walks_after}
use Rattle.loop_file.proofs.type_entry.read_type.Goals as goal

pub returns-in_err-check_keys-clause-walks : goal.returns-in_err-check_keys-clause-walks
returns-in_err-check_keys-clause-walks c =
    let p = err_from_is_err_and c.from_residual.result c.from_residual.ensures.1 in
    rw (p.1, p.2) (refused_left _ _ _ c.in_err-check_keys.ensures)

pub returns-in_err-read_name-clause-walks : goal.returns-in_err-read_name-clause-walks
returns-in_err-read_name-clause-walks c =
    let p = err_from_is_err_and c.from_residual-in_err-read_name.result c.from_residual-in_err-read_name.ensures.1 in
    rw (p.1, p.2) (refused_right _ _ _ c.in_ok-check_keys.ensures.0 (refused_left (_ ∷ []) _ _ c.in_err-read_name.ensures.fault))

pub returns-clause-walks : goal.returns-clause-walks
returns-clause-walks c =
    walks_after _ _ _ c.read_given.result c.in_ok-check_keys.ensures.0
    (walks_after (_ ∷ []) _ _ c.read_given.result (pass_cons _ _ (read_passes _ _ _ c.in_ok-read_name.ensures.ok) pass_none) c.read_given.ensures)
