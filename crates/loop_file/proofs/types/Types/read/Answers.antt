use Rattle.std.proofs.Common.{rules, ◌≡◌, ◌<◌, ◌≤◌, suc, ◌++◌, [], ◌∷◌, length, map, take, sym, ap, ◌∙◌, arith, false}
use Rattle.std.proofs.lemmas.List.{length-map, take_all}
use Rattle.std.proofs.lemmas.Result.{err_from_is_err_and}
use Rattle.toml.specs.Data.{no_members}
use Rattle.toml.specs.View.{table_view}
use Rattle.loop_file.specs.declared.place.Place.TheVariants.{OfType}
use Rattle.loop_file.specs.LoopFile.{type_checks, type_entry_checks, names_before, name_at, entry_of, given_of, no_given}
use Rattle.loop_file.proofs.Walks.{pass_append, refused_right, refused_within}
use Rattle.loop_file.proofs.Entries.{shown, entry_at, within_shown, map_take, pass_moved, refusal_moved, pass_one_more, pass_whole}
use Rattle.loop_file.proofs.types.Types.read.Goals as goal

pub loop-i-preserved : goal.loop-i-preserved
loop-i-preserved c =
    let i = c.loop-i.i in
    let ts = shown c.args.tables.now in
    let within : i < length c.args.tables.now = search rules in
    let at : entry_of ts i ≡ table_view c.index-tables-i.result.now = entry_at c.args.tables.now i c.index-tables-i.result within c.index-tables-i.is in
    let pushed : c.push.new.self.items ≡ c.loop-i.given.items ++ c.in_ok-read_type.field-0 ∷ [] = search rules in
    record {
      pass = pass_one_more (type_entry_checks ts) i (pass_append _ _ c.loop-i.invariant.pass
          (pass_moved (type_checks (OfType i)) _ _ _ _ c.loop-i.invariant.names at c.in_ok-read_type.ensures.walks.0));
      names = c.in_ok-read_type.ensures.noted ∙ ap (λ n. n ++ name_at (table_view c.index-tables-i.result.now) ∷ []) c.loop-i.invariant.names
          ∙ ap (λ t. names_before ts i ++ name_at t ∷ []) (sym at) ∙ sym (map_take name_at ts i no_members (within_shown c.args.tables.now i within));
      given = pushed ∙ ap (λ g. g ++ c.in_ok-read_type.field-0 ∷ []) c.loop-i.invariant.given
          ∙ ap (λ g. map (given_of false no_given) (take i ts) ++ g ∷ []) (c.in_ok-read_type.ensures.walks.1 ∙ ap (given_of false no_given) (sym at))
          ∙ sym (map_take (given_of false no_given) ts i no_members (within_shown c.args.tables.now i within));
    }

pub returns-in_err-read_type-clause-fault : goal.returns-in_err-read_type-clause-fault
returns-in_err-read_type-clause-fault c =
    let i = c.loop-i.i in
    let ts = shown c.args.tables.now in
    let within : i < length c.args.tables.now = search rules in
    let more : suc i ≤ length ts = omega (arith, within_shown c.args.tables.now i within) in
    let at : entry_of ts i ≡ table_view c.index-tables-i.result.now = entry_at c.args.tables.now i c.index-tables-i.result within c.index-tables-i.is in
    let p = err_from_is_err_and c.from_residual.result c.from_residual.ensures.1 in
    rw (p.1, p.2) (refused_within (type_entry_checks ts) (suc i) (length ts) _ more (refused_right _ _ _ c.loop-i.invariant.pass
    (refusal_moved (type_checks (OfType i)) _ _ _ _ _ c.loop-i.invariant.names at c.in_err-read_type.ensures.walks)))

pub returns-clause-pass : goal.returns-clause-pass
returns-clause-pass c =
    let end : c.loop-i.i ≡ length (shown c.args.tables.now) = omega (arith, length-map c.args.tables.now (λ t. table_view t.now)) in
    pass_whole (type_entry_checks (shown c.args.tables.now)) _ _ end c.loop-i.invariant.pass

pub returns-clause-names : goal.returns-clause-names
returns-clause-names c =
    let end : length (shown c.args.tables.now) ≤ c.loop-i.i = omega (arith, length-map c.args.tables.now (λ t. table_view t.now)) in
    c.loop-i.invariant.names ∙ ap (map name_at) (take_all c.loop-i.i (shown c.args.tables.now) end)

pub returns-clause-given : goal.returns-clause-given
returns-clause-given c =
    let end : length (shown c.args.tables.now) ≤ c.loop-i.i = omega (arith, length-map c.args.tables.now (λ t. table_view t.now)) in
    c.loop-i.invariant.given ∙ ap (map (given_of false no_given)) (take_all c.loop-i.i (shown c.args.tables.now) end)
