use Rattle.std.proofs.Common.{ap, ◌∙◌}
use Rattle.toml.specs.View.{view, table_view, members_view}
use Rattle.loop_print.specs.Put.{put}
use Rattle.loop_print.proofs.Puts.{members_view-insert_entry}
use Rattle.loop_print.proofs.print.put.Goals as goal

pub returns-in-Ok : goal.returns-in-Ok
returns-in-Ok c =
    ap members_view c.in-Ok.ensures.entries ∙ members_view-insert_entry c.args.table.now.entries c.in_ok-key.key c.args.value
    ∙ ap (λ k. put k (view c.args.value) (table_view c.args.table.now)) c.in_ok-key.ensures.ok
