use Rattle.std.proofs.Common.{codes, ◌≡◌, map, sym, ap, ◌∙◌, arith, lit≤}
use Rattle.std.proofs.lemmas.Result.{err_from_is_err_and}
use Rattle.sil_model.specs.LoopValue.{LoopValue, IsWithin}
use Rattle.toml.specs.Data.{get_member}
use Rattle.toml.specs.View.{table_view}
use Rattle.loop_file.specs.LoopFile.{checks_of, loop_of, given_by, types_of, tables_in, value_or, option_or, order_in, mission_in}
use Rattle.loop_file.specs.Walk.{Pass}
use Rattle.loop_file.proofs.Walks.{pass_append, pass_cons, refused_left, refused_right, refused_here, refused_later, passed}
use Rattle.loop_file.proofs.Entries.{shown}
use Rattle.loop_file.proofs.Ranges.{optional_whole, unwrapped}
use Rattle.loop_file.proofs.Whole.{types_refused, types_pass, subsystems_refused, subsystems_pass, subsystem_values, find_is, same_loop, valid_same, failed_top}
use Rattle.loop_file.proofs.read.read_tree.Goals as goal

pub returns-in_err-check_version : goal.returns-in_err-check_version
unfolding checks_of
returns-in_err-check_version c =
    let p = err_from_is_err_and c.from_residual.result c.from_residual.ensures.1 in
    rw (p.1, p.2) (refused_here _ _ _ c.in_err-check_version.ensures.fault)

pub returns-in_err-check_keys : goal.returns-in_err-check_keys
unfolding checks_of
returns-in_err-check_keys c =
    let p = err_from_is_err_and c.from_residual-in_err-check_keys.result c.from_residual-in_err-check_keys.ensures.1 in
    rw (p.1, p.2) (refused_later _ _ _ c.in_ok-check_version.ensures.ok
    (refused_left _ _ _ (rw c.requires at c.in_err-check_keys.ensures)))

pub returns-in_err-mission : goal.returns-in_err-mission
unfolding checks_of
returns-in_err-mission c =
    let p = err_from_is_err_and c.from_residual-in_err-mission.result c.from_residual-in_err-mission.ensures.1 in
    rw (p.1, p.2) (refused_later _ _ _ c.in_ok-check_version.ensures.ok
    (refused_right _ _ _ (rw c.requires at c.in_ok-check_keys.ensures.0)
    (refused_here _ _ _ (failed_top _ (codes "mission") _ _ _ c.requires c.required_whole.ensures c.in_err-mission.ensures))))

pub returns-in_err-order : goal.returns-in_err-order
unfolding checks_of
returns-in_err-order c =
    let p = err_from_is_err_and c.from_residual-in_err-order.result c.from_residual-in_err-order.ensures.1 in
    rw (p.1, p.2) (refused_later _ _ _ c.in_ok-check_version.ensures.ok
    (refused_right _ _ _ (rw c.requires at c.in_ok-check_keys.ensures.0)
    (refused_later _ _ _ (passed _ _ _ _ c.required_whole.ensures c.in_ok-mission.ensures)
    (refused_here _ _ _ (failed_top _ (codes "order") _ _ _ c.requires c.whole.ensures c.in_err-order.ensures)))))

pub returns-in_err-type_tables : goal.returns-in_err-type_tables
unfolding checks_of
returns-in_err-type_tables c =
    let p = err_from_is_err_and c.from_residual-in_err-type_tables.result c.from_residual-in_err-type_tables.ensures.1 in
    rw (p.1, p.2) (refused_later _ _ _ c.in_ok-check_version.ensures.ok
    (refused_right _ _ _ (rw c.requires at c.in_ok-check_keys.ensures.0)
    (refused_later _ _ _ (passed _ _ _ _ c.required_whole.ensures c.in_ok-mission.ensures)
    (refused_later _ _ _ (passed _ _ _ _ c.whole.ensures c.in_ok-order.ensures)
    (refused_left _ _ _ c.in_err-type_tables.ensures.fault)))))

pub returns-in_err-subsystem_tables : goal.returns-in_err-subsystem_tables
unfolding checks_of
returns-in_err-subsystem_tables c =
    let p = err_from_is_err_and c.from_residual-in_err-subsystem_tables.result c.from_residual-in_err-subsystem_tables.ensures.1 in
    rw (p.1, p.2) (refused_later _ _ _ c.in_ok-check_version.ensures.ok
    (refused_right _ _ _ (rw c.requires at c.in_ok-check_keys.ensures.0)
    (refused_later _ _ _ (passed _ _ _ _ c.required_whole.ensures c.in_ok-mission.ensures)
    (refused_later _ _ _ (passed _ _ _ _ c.whole.ensures c.in_ok-order.ensures)
    (refused_right _ _ _ c.in_ok-type_tables.ensures.pass
    (refused_left _ _ _ c.in_err-subsystem_tables.ensures.fault))))))

pub returns-in_err-types : goal.returns-in_err-types
unfolding checks_of
returns-in_err-types c =
    let tables : shown c.as_slice.result.now ≡ tables_in (get_member (codes "type") (table_view c.args.top.now.table.now)) = ap shown c.as_slice.ensures.value ∙ c.in_ok-type_tables.ensures.tables in
    let p = err_from_is_err_and c.from_residual-in_err-types.result c.from_residual-in_err-types.ensures.1 in
    rw (p.1, p.2) (refused_later _ _ _ c.in_ok-check_version.ensures.ok
    (refused_right _ _ _ (rw c.requires at c.in_ok-check_keys.ensures.0)
    (refused_later _ _ _ (passed _ _ _ _ c.required_whole.ensures c.in_ok-mission.ensures)
    (refused_later _ _ _ (passed _ _ _ _ c.whole.ensures c.in_ok-order.ensures)
    (refused_right _ _ _ c.in_ok-type_tables.ensures.pass
    (refused_right _ _ _ c.in_ok-subsystem_tables.ensures.pass
    (refused_left _ _ _ (types_refused _ _ _ tables c.in_err-types.ensures.fault))))))))

pub returns-in_err-subsystems : goal.returns-in_err-subsystems
unfolding checks_of
returns-in_err-subsystems c =
    let tables : shown c.as_slice.result.now ≡ tables_in (get_member (codes "type") (table_view c.args.top.now.table.now)) = ap shown c.as_slice.ensures.value ∙ c.in_ok-type_tables.ensures.tables in
    let types = types_pass _ _ tables c.in_ok-types.ensures.pass in
    let subsystems : shown c.as_slice-2.result.now ≡ tables_in (get_member (codes "subsystem") (table_view c.args.top.now.table.now)) = ap shown c.as_slice-2.ensures.value ∙ c.in_ok-subsystem_tables.ensures.tables in
    let find : given_by (map (λ k. k.now) c.in_ok-types.types.names.keys) c.in_ok-types.types.given.items ≡ types_of (tables_in (get_member (codes "type") (table_view c.args.top.now.table.now))) =
    find_is _ _ _ _ c.in_ok-types.ensures.names c.in_ok-types.ensures.given tables in
    let p = err_from_is_err_and c.from_residual-in_err-subsystems.result c.from_residual-in_err-subsystems.ensures.1 in
    rw (p.1, p.2) (refused_later _ _ _ c.in_ok-check_version.ensures.ok
    (refused_right _ _ _ (rw c.requires at c.in_ok-check_keys.ensures.0)
    (refused_later _ _ _ (passed _ _ _ _ c.required_whole.ensures c.in_ok-mission.ensures)
    (refused_later _ _ _ (passed _ _ _ _ c.whole.ensures c.in_ok-order.ensures)
    (refused_right _ _ _ c.in_ok-type_tables.ensures.pass
    (refused_right _ _ _ c.in_ok-subsystem_tables.ensures.pass
    (refused_right _ _ _ types
    (subsystems_refused _ _ _ _ _ find subsystems c.in_err-subsystems.ensures.fault))))))))

pass : (c : goal.After-unwrap_or) → Pass (checks_of (table_view c.args.top.now.table.now))
unfolding checks_of
pass c =
    let tables : shown c.as_slice.result.now ≡ tables_in (get_member (codes "type") (table_view c.args.top.now.table.now)) = ap shown c.as_slice.ensures.value ∙ c.in_ok-type_tables.ensures.tables in
    let types = types_pass _ _ tables c.in_ok-types.ensures.pass in
    let subsystems : shown c.as_slice-2.result.now ≡ tables_in (get_member (codes "subsystem") (table_view c.args.top.now.table.now)) = ap shown c.as_slice-2.ensures.value ∙ c.in_ok-subsystem_tables.ensures.tables in
    let find : given_by (map (λ k. k.now) c.in_ok-types.types.names.keys) c.in_ok-types.types.given.items ≡ types_of (tables_in (get_member (codes "type") (table_view c.args.top.now.table.now))) =
    find_is _ _ _ _ c.in_ok-types.ensures.names c.in_ok-types.ensures.given tables in
    pass_cons _ _ c.in_ok-check_version.ensures.ok (pass_append _ _ (rw c.requires at c.in_ok-check_keys.ensures.0) (pass_cons _ _ (passed _ _ _ _ c.required_whole.ensures c.in_ok-mission.ensures) (pass_cons _ _ (passed _ _ _ _ c.whole.ensures c.in_ok-order.ensures) (pass_append _ _ c.in_ok-type_tables.ensures.pass (pass_append _ _ c.in_ok-subsystem_tables.ensures.pass
    (pass_append _ _ types (subsystems_pass _ _ _ _ find subsystems c.in_ok-subsystems.ensures.pass)))))))

mission_value : (c : goal.After-unwrap_or) → c.in_ok-mission.mission ≡ value_or 1 (mission_in (get_member (codes "mission") (table_view c.args.top.now.table.now)))
mission_value c = sym (ap (value_or 1) (sym c.required_whole.ensures ∙ c.in_ok-mission.ensures))

order_value : (c : goal.After-unwrap_or) → c.unwrap_or.result ≡ option_or 28 (order_in (get_member (codes "order") (table_view c.args.top.now.table.now)))
order_value c = c.unwrap_or.ensures ∙ unwrapped 28 _ _ (sym c.whole.ensures ∙ c.in_ok-order.ensures)

same : (c : goal.After-unwrap_or) → (let l : LoopValue = record { mission = c.in_ok-mission.mission; order = c.unwrap_or.result; subsystems = c.in_ok-subsystems.subsystems.items } in l ≡ loop_of (table_view c.args.top.now.table.now))
same c =
    let tables : shown c.as_slice.result.now ≡ tables_in (get_member (codes "type") (table_view c.args.top.now.table.now)) = ap shown c.as_slice.ensures.value ∙ c.in_ok-type_tables.ensures.tables in
    let subsystems : shown c.as_slice-2.result.now ≡ tables_in (get_member (codes "subsystem") (table_view c.args.top.now.table.now)) = ap shown c.as_slice-2.ensures.value ∙ c.in_ok-subsystem_tables.ensures.tables in
    let find : given_by (map (λ k. k.now) c.in_ok-types.types.names.keys) c.in_ok-types.types.given.items ≡ types_of (tables_in (get_member (codes "type") (table_view c.args.top.now.table.now))) =
    find_is _ _ _ _ c.in_ok-types.ensures.names c.in_ok-types.ensures.given tables in
    same_loop _ _ _ _ (mission_value c) (order_value c) (subsystem_values _ _ _ _ _ find subsystems c.in_ok-subsystems.ensures.value)

pub new-requires : goal.new-requires
new-requires c = valid_same _ _ (same c) (pass c)

pub overflow_cast-unwrap_or : goal.overflow_cast-unwrap_or
overflow_cast-unwrap_or c =
    let range : IsWithin 16 40 c.unwrap_or.result = rw (order_value c) (optional_whole 16 40 28 (get_member (codes "order") (table_view c.args.top.now.table.now)) (record { above = lit≤ tt; below = lit≤ tt })) in
    omega (arith, range.below)

pub returns : goal.returns
unfolding checks_of
returns c =
    let tables : shown c.as_slice.result.now ≡ tables_in (get_member (codes "type") (table_view c.args.top.now.table.now)) = ap shown c.as_slice.ensures.value ∙ c.in_ok-type_tables.ensures.tables in
    let types = types_pass _ _ tables c.in_ok-types.ensures.pass in
    let subsystems : shown c.as_slice-2.result.now ≡ tables_in (get_member (codes "subsystem") (table_view c.args.top.now.table.now)) = ap shown c.as_slice-2.ensures.value ∙ c.in_ok-subsystem_tables.ensures.tables in
    let find : given_by (map (λ k. k.now) c.in_ok-types.types.names.keys) c.in_ok-types.types.given.items ≡ types_of (tables_in (get_member (codes "type") (table_view c.args.top.now.table.now))) =
    find_is _ _ _ _ c.in_ok-types.ensures.names c.in_ok-types.ensures.given tables in (
      pass_cons _ _ c.in_ok-check_version.ensures.ok (pass_append _ _ (rw c.requires at c.in_ok-check_keys.ensures.0) (pass_cons _ _ (passed _ _ _ _ c.required_whole.ensures c.in_ok-mission.ensures) (pass_cons _ _ (passed _ _ _ _ c.whole.ensures c.in_ok-order.ensures) (pass_append _ _ c.in_ok-type_tables.ensures.pass (pass_append _ _ c.in_ok-subsystem_tables.ensures.pass
          (pass_append _ _ types (subsystems_pass _ _ _ _ find subsystems c.in_ok-subsystems.ensures.pass))))))),
      c.new.ensures ∙ same_loop (table_view c.args.top.now.table.now) _ _ _ (sym (ap (value_or 1) (sym c.required_whole.ensures ∙ c.in_ok-mission.ensures))) (c.unwrap_or.ensures ∙ unwrapped 28 _ _ (sym c.whole.ensures ∙ c.in_ok-order.ensures)) (subsystem_values _ _ _ _ _ find subsystems c.in_ok-subsystems.ensures.value),
    )
