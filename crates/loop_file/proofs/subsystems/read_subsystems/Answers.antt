use Rattle.std.proofs.Common.{rules, ◌≡◌, ◌<◌, ◌≤◌, suc, ◌++◌, [], ◌∷◌, length, map, take, sym, ap, ◌∙◌, arith, ℕ, List, Result}
use Rattle.std.proofs.lemmas.List.{length-map, take_all}
use Rattle.std.proofs.lemmas.Result.{err_from_is_err_and}
use Rattle.toml.specs.Data.{Members, no_members}
use Rattle.toml.specs.View.{table_view}
use Rattle.loop_file.specs.declared.fault.Flaw.{Flaw}
use Rattle.loop_file.specs.declared.given.Given.{Given}
use Rattle.loop_file.specs.LoopFile.{given_by, subsystem_checks, subsystem_of, names_before, name_at, entry_of}
use Rattle.loop_file.specs.Walk.{Check}
use Rattle.loop_file.proofs.Walks.{pass_append, refused_right, refused_within}
use Rattle.loop_file.proofs.Entries.{shown, entry_at, within_shown, map_take, pass_moved, refusal_moved, pass_one_more, pass_whole}
use Rattle.loop_file.proofs.subsystems.read_subsystems.Goals as goal

-- the checks of each entry
abbrev entry_checks_of : (List ℕ → Result Given Flaw) → List Members → ℕ → List Check
entry_checks_of find us i = subsystem_checks find i (names_before us i) (entry_of us i)

pub loop-i-preserved : goal.loop-i-preserved
loop-i-preserved c =
    let i = c.loop-i.i in
    let find = given_by (map (λ k. k.now) c.args.types.now.names.keys) c.args.types.now.given.items in
    let ts = shown c.args.tables.now in
    let within : i < length c.args.tables.now = search rules in
    let at : entry_of ts i ≡ table_view c.index-tables-i.result.now = entry_at c.args.tables.now i c.index-tables-i.result within c.index-tables-i.is in
    let pushed : c.push.new.self.items ≡ c.loop-i.subsystems.items ++ c.in_ok-read_subsystem.field-0 ∷ [] = search rules in
    record {
      pass = pass_one_more (entry_checks_of find ts) i (pass_append _ _ c.loop-i.invariant.pass
          (pass_moved (subsystem_checks find i) _ _ _ _ c.loop-i.invariant.names at c.in_ok-read_subsystem.ensures.walks.0));
      names = c.in_ok-read_subsystem.ensures.noted ∙ ap (λ n. n ++ name_at (table_view c.index-tables-i.result.now) ∷ []) c.loop-i.invariant.names
          ∙ ap (λ t. names_before ts i ++ name_at t ∷ []) (sym at) ∙ sym (map_take name_at ts i no_members (within_shown c.args.tables.now i within));
      subsystems = pushed ∙ ap (λ g. g ++ c.in_ok-read_subsystem.field-0 ∷ []) c.loop-i.invariant.subsystems
          ∙ ap (λ g. map (subsystem_of find) (take i ts) ++ g ∷ []) (c.in_ok-read_subsystem.ensures.walks.1 ∙ ap (subsystem_of find) (sym at))
          ∙ sym (map_take (subsystem_of find) ts i no_members (within_shown c.args.tables.now i within));
    }

pub returns-in_err-read_subsystem-clause-fault : goal.returns-in_err-read_subsystem-clause-fault
returns-in_err-read_subsystem-clause-fault c =
    let i = c.loop-i.i in
    let find = given_by (map (λ k. k.now) c.args.types.now.names.keys) c.args.types.now.given.items in
    let ts = shown c.args.tables.now in
    let within : i < length c.args.tables.now = search rules in
    let more : suc i ≤ length ts = omega (arith, within_shown c.args.tables.now i within) in
    let at : entry_of ts i ≡ table_view c.index-tables-i.result.now = entry_at c.args.tables.now i c.index-tables-i.result within c.index-tables-i.is in
    let p = err_from_is_err_and c.from_residual.result c.from_residual.ensures.1 in
    rw (p.1, p.2) (refused_within (entry_checks_of find ts) (suc i) (length ts) _ more (refused_right _ _ _ c.loop-i.invariant.pass
    (refusal_moved (subsystem_checks find i) _ _ _ _ _ c.loop-i.invariant.names at c.in_err-read_subsystem.ensures.walks)))

pub returns-clause-pass : goal.returns-clause-pass
returns-clause-pass c =
    let find = given_by (map (λ k. k.now) c.args.types.now.names.keys) c.args.types.now.given.items in
    let end : c.loop-i.i ≡ length (shown c.args.tables.now) = omega (arith, length-map c.args.tables.now (λ t. table_view t.now)) in
    pass_whole (entry_checks_of find (shown c.args.tables.now)) _ _ end c.loop-i.invariant.pass

pub returns-clause-value : goal.returns-clause-value
returns-clause-value c =
    let find = given_by (map (λ k. k.now) c.args.types.now.names.keys) c.args.types.now.given.items in
    let end : length (shown c.args.tables.now) ≤ c.loop-i.i = omega (arith, length-map c.args.tables.now (λ t. table_view t.now)) in
    c.loop-i.invariant.subsystems ∙ ap (map (subsystem_of find)) (take_all c.loop-i.i (shown c.args.tables.now) end)
