use Rattle.std.proofs.Common.{codes, ◌≡◌, ap, ◌∙◌}
use Rattle.toml.specs.Data.{string, table, no_members}
use Rattle.toml.specs.View.{table_view, members_view}
use Rattle.toml.proofs.Views.{view-Table}
use Rattle.loop_print.specs.Canonical.{last_members}
use Rattle.loop_print.specs.Put.{with_figures}
use Rattle.loop_print.proofs.Puts.{put_step, filled_subsystem, last_some, last_none}
use Rattle.loop_print.proofs.print.subsystem_table.Goals as goal
use Rattle.loop_print.proofs.print.subsystem_table.Goals.{in-Some+in_ok-test_table+in_ok-put-2, in_default}

pub returns : goal.returns
returns c =
    let u = c.args.u.now in
    let first = put_step (codes "vote") _ _ _ no_members _ c.in_ok-put.ensures c.in_ok-vote.ensures (ap members_view c.new-table.ensures.empty) in
    let last : table_view c.match-u.table ≡ last_members u.test u.vote =
    elim c.match-u.branch [
      | in-Some+in_ok-test_table+in_ok-put-2 w ↦ ap table_view w.table-is
          ∙ put_step (codes "test") _ _ _ _ _ w.in_ok-put-2.ensures (view-Table _ ∙ ap table w.in_ok-test_table.ensures) first ∙ last_some u.test _ u.vote w.in-Some.is
      | in_default w ↦ ap table_view w.table-is ∙ first ∙ last_none u.test u.vote w.in_default.is
    ] in
    c.in_ok-put_figures.ensures
    ∙ ap (with_figures u.figures) (put_step (codes "in_repair") _ _ _ _ _ c.in_ok-put-4.ensures (c.in_ok-string-2.ensures ∙ ap string c.choice.ensures)
    (put_step (codes "name") _ _ _ _ _ c.in_ok-put-3.ensures (c.in_ok-string.ensures ∙ ap string c.as_str.ensures) last))
    ∙ filled_subsystem u
