use Rattle.std.proofs.Common.{codes, ◌∷◌, ◌++◌, [], ◌≤◌, length, map, get_or, sym, ap, ◌∙◌, arith}
use Rattle.std.proofs.lemmas.List.{map-append, take_all}
use Rattle.toml.specs.Data.{array, table, no_members}
use Rattle.toml.specs.View.{view, members_view, items_of}
use Rattle.toml.proofs.Views.{view-Table, view-Array}
use Rattle.toml.specs.declared.value.Value.{Table}
use Rattle.sil_model.specs.declared.parts.Subsystem.{Subsystem}
use Rattle.loop_print.specs.Canonical.{subsystem_table, whole_number, canonical_of}
use Rattle.loop_file.proofs.Entries.{map_take}
use Rattle.loop_print.proofs.Puts.{put_step}
use Rattle.loop_print.proofs.print.loop_table.Goals as goal

pub loop-i-preserved : goal.loop-i-preserved
loop-i-preserved c =
    let us = c.args.l.now.subsystems in
    let f = λ (u : Subsystem). table (subsystem_table u) in
    let u = c.subsystem.result.now in
    let item = Table c.in_ok-subsystem_table.field-0 in
    ap (map view) c.in_ok-push.ensures.items ∙ map-append view c.loop-i.subsystems.items (item ∷ [])
    ∙ ap (λ x. map view c.loop-i.subsystems.items ++ x ∷ []) (view-Table c.in_ok-subsystem_table.field-0 ∙ ap table c.in_ok-subsystem_table.ensures ∙ ap f (c.subsystem.ensures u))
    ∙ ap (λ x. x ++ f (get_or us c.loop-i.i u) ∷ []) c.loop-i.invariant
    ∙ sym (map_take f us c.loop-i.i u (omega (arith, c.len-i-end.ensures.len)))

pub returns-clause-table : goal.returns-clause-table
unfolding canonical_of
returns-clause-table c =
    let l = c.args.l.now in
    let f = λ (u : Subsystem). table (subsystem_table u) in
    let end : length l.subsystems ≤ c.loop-i.i = omega (arith, c.len-i-end.ensures.len) in
    let all = view-Array c.loop-i.subsystems ∙ ap (λ ds. array (items_of ds)) (c.loop-i.invariant ∙ ap (map f) (take_all c.loop-i.i l.subsystems end)) in
    put_step (codes "mission") _ _ _ _ _ c.in_ok-put-4.ensures (c.whole_number-3.ensures ∙ ap whole_number c.mission.ensures.mission)
    (put_step (codes "order") _ _ _ _ _ c.in_ok-put-3.ensures (c.whole_number-2.ensures ∙ ap whole_number (c.from.ensures ∙ c.order.ensures))
    (put_step (codes "subsystem") _ _ _ _ _ c.in_ok-put-2.ensures all
    (put_step (codes "version") _ _ _ no_members _ c.in_ok-put.ensures c.whole_number.ensures (ap members_view c.new-table.ensures.empty))))
