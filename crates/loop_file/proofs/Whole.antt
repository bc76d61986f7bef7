-- The whole walk, from what its parts found.
use Rattle.std.proofs.Common.{codes, ◌≡◌, ℕ, List, length, map, subst, Some, ◌⊎◌, Result, refl, false}
use Rattle.sil_model.specs.LoopValue.{LoopValue, IsValid}
use Rattle.sil_model.specs.declared.parts.Subsystem.{Subsystem}
use Rattle.toml.specs.Data.{Members, get_member}
use Rattle.file_fault.specs.declared.FileFault.{FileFault}
use Rattle.loop_file.specs.declared.fault.Flaw.{Flaw}
use Rattle.loop_file.specs.declared.given.Given.{Given}
use Rattle.loop_file.specs.LoopFile.{checks_of, loop_of, type_entry_checks, subsystem_checks, subsystem_of, names_before, entry_of, name_at, given_by, given_of, no_given, types_of, tables_in, value_or, option_or, mission_in, order_in}
use Rattle.loop_file.specs.Walk.{Check, checks_below, Pass, IsMemory, IsRefusal}
use Rattle.loop_file.specs.declared.place.Place.{Place}
use Rattle.loop_file.specs.declared.place.Place.TheVariants.{Top}
use Rattle.loop_file.specs.Paths.{check_at, path_of}
use Rattle.loop_file.proofs.Valid.{valid_loop}
use Rattle.loop_file.proofs.Walks.{failed}

pub types_refused : (a b : List Members) (e : FileFault) → a ≡ b → IsRefusal (checks_below (type_entry_checks a) (length a)) e → IsRefusal (checks_below (type_entry_checks b) (length b)) e
types_refused a b e same r = rw (← same) r

pub types_pass : (a b : List Members) → a ≡ b → Pass (checks_below (type_entry_checks a) (length a)) → Pass (checks_below (type_entry_checks b) (length b))
types_pass a b same r = rw (← same) r

-- the checks of subsystems over a look-up of types
abbrev pub over_types : (List ℕ → Result Given Flaw) → List Members → List Check
over_types find us = checks_below (λ i. subsystem_checks find i (names_before us i) (entry_of us i)) (length us)

pub subsystems_refused : (f g : List ℕ → Result Given Flaw) (a b : List Members) (e : FileFault) → f ≡ g → a ≡ b → IsRefusal (over_types f a) e → IsRefusal (over_types g b) e
subsystems_refused f g a b e s t r = rw (← s, ← t) r

pub subsystems_pass : (f g : List ℕ → Result Given Flaw) (a b : List Members) → f ≡ g → a ≡ b → Pass (over_types f a) → Pass (over_types g b)
subsystems_pass f g a b s t r = rw (← s, ← t) r

pub subsystem_values : (f g : List ℕ → Result Given Flaw) (a b : List Members) (us : List Subsystem) → f ≡ g → a ≡ b → us ≡ map (subsystem_of f) a → us ≡ map (subsystem_of g) b
subsystem_values f g a b us s t r = rw (← s, ← t) r

pub find_is : (ns : List (List ℕ)) (gs : List Given) (a b : List Members) → ns ≡ map name_at a → gs ≡ map (given_of false no_given) a → a ≡ b → given_by ns gs ≡ types_of b
find_is ns gs a b n g e = rw (n, g, e) refl

pub same_loop : (t : Members) (mission order : ℕ) (us : List Subsystem) → mission ≡ value_or 1 (mission_in (get_member (codes "mission") t)) → order ≡ option_or 28 (order_in (get_member (codes "order") t))
    → us ≡ map (subsystem_of (types_of (tables_in (get_member (codes "type") t)))) (tables_in (get_member (codes "subsystem") t))
    → (let l : LoopValue = record { mission = mission; order = order; subsystems = us } in l ≡ loop_of t)
unfolding loop_of
same_loop t mission order us a b c = rw (a, b, c) refl

pub valid_same : (t : Members) (l : LoopValue) → l ≡ loop_of t → Pass (checks_of t) → IsValid l
valid_same t l e p = rw e (valid_loop t p)

pub failed_top : {A : Type 0} (place : Place) (key : List ℕ) (r s : Result A Flaw) (e : FileFault) → place ≡ Top → r ≡ s → IsMemory e ⊎ (check_at (path_of place key) r ≡ Some e) → IsMemory e ⊎ (check_at (path_of Top key) s ≡ Some e)
failed_top place key r s e top same h =
    let P : Place → Type 0 = λ at. IsMemory e ⊎ (check_at (path_of at key) s ≡ Some e) in
    subst P top (failed (path_of place key) r s e same h)
