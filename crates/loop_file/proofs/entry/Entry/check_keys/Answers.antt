use Rattle.std.proofs.Common.{◌≡◌, ◌∷◌, ◌⊎◌, inl, inr, Some, refl, sym, ap, ◌∙◌, arith, false, true, map, string_bytes}
use Rattle.std.proofs.lemmas.Grind.{common_steps}
use Rattle.std.specs.List.{list_any}
use Rattle.std.specs.Str.{bytes_eq}
use Rattle.toml.proofs.Views.{Entry}
use Rattle.toml.specs.View.{members_view}
use Rattle.loop_file.specs.LoopFile.{unknown_checks}
use Rattle.loop_file.specs.Walk.{first_fault, IsMemory}
use Rattle.loop_file.specs.Paths.{path_of}
use Rattle.file_fault.specs.declared.FileFault.TheVariants.{UnknownKey}
use Rattle.loop_file.proofs.entry.Entry.check_keys.Goals as goal

pub returns-then-not-is_known : goal.returns-then-not-is_known
returns-then-not-is_known c =
    let (can, finite, same) = c.keys.invariant in
    let e : Entry = (c.in-Some.key.now, c.in-Some._value.now) in
    let iter : c.keys.key-iterator ≡ e ∷ c.next.new.self = grind (arith, common_steps) in
    let unknown : list_any (λ k. bytes_eq k (string_bytes e.0)) (map (λ k. k.now) c.args.known.now) ≡ false = grind (arith, common_steps) in
    let first : first_fault (unknown_checks c.args.self.now.place (map (λ k. k.now) c.args.known.now) (members_view c.args.self.now.table.now.entries)) ≡ Some (UnknownKey (path_of c.args.self.now.place (string_bytes e.0))) =
    sym same ∙ rw (iter, unknown) refl in
    let fault : IsMemory c.fault.result ⊎ (c.fault.result ≡ UnknownKey (path_of c.args.self.now.place (string_bytes e.0))) = rw c.as_str-then-not-is_known.ensures.value at c.fault.ensures in
    record { cause = elim fault [ inl m ↦ inl m | inr h ↦ inr (first ∙ ap Some (sym h)) ] }

pub keys-preserved : goal.keys-preserved
keys-preserved c =
    let (can, finite, same) = c.keys.invariant in
    let e : Entry = (c.in-Some.key.now, c.in-Some._value.now) in
    let iter : c.keys.key-iterator ≡ e ∷ c.next.new.self = grind (arith, common_steps) in
    let known : list_any (λ k. bytes_eq k (string_bytes e.0)) (map (λ k. k.now) c.args.known.now) ≡ true = grind (arith, common_steps) in
    (tt, tt, sym (rw (iter, known) refl) ∙ same)
