use Rattle.std.proofs.Common.{rules, codes, ◌≡◌, inl, inr, Some, Ok, Err, refl, sym, ap, ◌∙◌, false, true, map, Bool, List, ℕ, not, Result}
use Rattle.std.specs.List.{list_any}
use Rattle.std.specs.Str.{bytes_eq}
use Rattle.toml.specs.Data.{get_member}
use Rattle.toml.specs.View.{table_view}
use Rattle.loop_file.specs.declared.fault.Flaw.{Flaw}
use Rattle.loop_file.specs.declared.fault.Flaw.TheVariants.{SameName}
use Rattle.loop_file.specs.LoopFile.{unlike, new_name_in}
use Rattle.loop_file.specs.Readings.{required, name_in}
use Rattle.loop_file.proofs.ShownNames.{any_shown}
use Rattle.loop_file.proofs.Walks.{refused_here}
use Rattle.loop_file.proofs.names.read_name.Goals as goal

unlike-new : (earlier : List (List ℕ)) (r : Result (List ℕ) Flaw) (name : List ℕ) → r ≡ Ok name → list_any (bytes_eq name) earlier ≡ false → unlike earlier r ≡ Ok name
unlike-new earlier r name ok new = rw (ok, new) refl

unlike-old : (earlier : List (List ℕ)) (r : Result (List ℕ) Flaw) (name : List ℕ) → r ≡ Ok name → list_any (bytes_eq name) earlier ≡ true → unlike earlier r ≡ Err SameName
unlike-old earlier r name ok old = rw (ok, old) refl

not_true : (b : Bool) → true ≡ not b → b ≡ false
not_true true h = cc
not_true false h = refl

not_false : (b : Bool) → false ≡ not b → b ≡ true
not_false true h = refl
not_false false h = cc

pub returns-in-Ok-default-true-clause-ok : goal.returns-in-Ok-default-true-clause-ok
returns-in-Ok-default-true-clause-ok c =
    let found : required name_in (get_member (codes "name") (table_view c.args.entry.now.table.now)) ≡ Ok c.in_ok-name.name.now = search rules in
    let new : list_any (λ k. bytes_eq c.in_ok-name.name.now k.now) c.args.earlier.now.keys ≡ false =
    not_true _ (sym c.in-Ok-default-true.field-0-1-test ∙ c.in-Ok-default-true.ensures.added) in
    unlike-new _ _ _ found (sym (any_shown (bytes_eq c.in_ok-name.name.now) c.args.earlier.now.keys) ∙ new)

pub returns-in-Ok-default-false-clause-fault : goal.returns-in-Ok-default-false-clause-fault
returns-in-Ok-default-false-clause-fault c =
    let found : required name_in (get_member (codes "name") (table_view c.args.entry.now.table.now)) ≡ Ok c.in_ok-name.name.now = search rules in
    let old : list_any (λ k. bytes_eq c.in_ok-name.name.now k.now) c.args.earlier.now.keys ≡ true =
    not_false _ (sym c.in-Ok-default-false.field-0-1-test ∙ c.in-Ok-default-false.ensures.added) in
    let same : new_name_in (map (λ k. k.now) c.args.earlier.now.keys) (get_member (codes "name") (table_view c.args.entry.now.table.now)) ≡ Err SameName =
    unlike-old _ _ _ found (sym (any_shown (bytes_eq c.in_ok-name.name.now) c.args.earlier.now.keys) ∙ old) in
    refused_here _ _ _ (elim c.fault.ensures [ inl m ↦ inl m | inr h ↦ inr (rw same (ap Some (sym h))) ])
