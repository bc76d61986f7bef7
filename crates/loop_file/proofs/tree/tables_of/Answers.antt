use Rattle.std.proofs.Common.{rules, ◌≡◌, ◌⊎◌, inl, inr, ◌+◌, ◌<◌, ◌≤◌, ◌++◌, [], ◌∷◌, length, drop, sym, ap, ◌∙◌, refl, arith, ℕ, List, Some, None, append_assoc, append-nil, get_or, option_map}
use Rattle.std.proofs.lemmas.List.{map-append, drop_all}
use Rattle.std.proofs.Math.Numerals.{add-one}
use Rattle.toml.proofs.Views.{items_view-drop}
use Rattle.toml.specs.Data.{as_table}
use Rattle.toml.specs.View.{view, items_view, table_view}
use Rattle.toml.specs.declared.value.Value.{Value}
use Rattle.file_fault.specs.declared.FileFault.{FileFault}
use Rattle.file_fault.specs.declared.FileFault.TheVariants.{WrongKind}
use Rattle.loop_file.specs.LoopFile.{entry_checks, tables_of}
use Rattle.loop_file.specs.Paths.{entry_path}
use Rattle.loop_file.specs.Walk.{first_fault, IsMemory, IsRefusal}
use Rattle.loop_file.proofs.Entries.{TableRef, shown}
use Rattle.loop_file.proofs.tree.tables_of.Goals as goal

-- an entry that is no table, where those before it are tables
no_table : (key : List ℕ) (vs : List Value) (i : ℕ) (v : Value) (e : FileFault) → i < length vs → get_or vs i v ≡ v → as_table (view v) ≡ None
    → first_fault (entry_checks key i (items_view (drop i vs))) ≡ first_fault (entry_checks key 0 (items_view vs))
    → IsMemory e ⊎ (e ≡ WrongKind (entry_path key i)) → IsRefusal (entry_checks key 0 (items_view vs)) e
no_table key vs i v e within at none same fault = record {
  cause = elim fault [
    | inl m ↦ inl m
    | inr h ↦ inr (sym same ∙ rw (items_view-drop vs i v within, at, none) (ap Some (sym h)))
  ];
}

one_more : (before after : List TableRef) (vs : List Value) (i : ℕ) (v : Value) (t : TableRef) → i < length vs → get_or vs i v ≡ v → as_table (view v) ≡ Some (table_view t.now) → after ≡ before ++ t ∷ []
    → shown after ++ tables_of (items_view (drop (i + 1) vs)) ≡ shown before ++ tables_of (items_view (drop i vs))
one_more before after vs i v t within at table pushed =
    rw (pushed, map-append (λ (x : TableRef). table_view x.now) before (t ∷ []), append_assoc (shown before) (table_view t.now ∷ []) (tables_of (items_view (drop (i + 1) vs))), items_view-drop vs i v within, at, table) refl

pub loop-i-preserved : goal.loop-i-preserved
loop-i-preserved c =
    let vs = c.args.entries.now in
    let v = c.index-entries-i.result in
    let at : get_or vs c.loop-i.i v ≡ v = sym c.index-entries-i.is in
    let table : as_table (view v) ≡ Some (table_view c.in-Some.table.now) = sym c.as_table.ensures ∙ ap (option_map (λ m. table_view m.now)) c.in-Some.is in
    let pushed : c.push.new.self.items ≡ c.loop-i.tables.items ++ c.in-Some.table ∷ [] = search rules in
    record {
      pass = sym (rw (items_view-drop vs c.loop-i.i v c.loop-i-test.true, at, table, ← add-one c.loop-i.i) refl) ∙ c.loop-i.invariant.pass;
      tables = one_more c.loop-i.tables.items c.push.new.self.items vs c.loop-i.i v c.in-Some.table c.loop-i-test.true at table pushed ∙ c.loop-i.invariant.tables;
    }

pub returns-in_default-clause-fault : goal.returns-in_default-clause-fault
returns-in_default-clause-fault c =
    let v = c.index-entries-i.result in
    let none : as_table (view v) ≡ None = search rules in
    no_table c.args.key.now c.args.entries.now c.loop-i.i v _ c.loop-i-test.true (sym c.index-entries-i.is) none c.loop-i.invariant.pass c.no_table.ensures

pub returns-clause-pass : goal.returns-clause-pass
returns-clause-pass c =
    let end : length c.args.entries.now ≤ c.loop-i.i = omega arith in
    record { none = sym c.loop-i.invariant.pass ∙ rw (drop_all c.loop-i.i c.args.entries.now end) refl }

pub returns-clause-tables : goal.returns-clause-tables
returns-clause-tables c =
    let end : length c.args.entries.now ≤ c.loop-i.i = omega arith in
    sym (append-nil (shown c.loop-i.tables.items)) ∙ rw (drop_all c.loop-i.i c.args.entries.now end) at c.loop-i.invariant.tables
