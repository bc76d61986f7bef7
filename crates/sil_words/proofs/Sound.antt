-- The options of each verb of the table can be told apart, and so a split whose values are taken is a reading.
use Rattle.std.proofs.Common.{◌≡◌, ◌∙◌, refl, sym, ap, Bool, true, false, not, cond, ◌&&◌, ◌||◌, List, [], ◌∷◌, Option, Some, None, find, is_some}
use Rattle.std.specs.List.{list_all, list_any}
use Rattle.std.specs.Option.{option_map_or}
use Rattle.std.specs.Str.{bytes_eq}
use Rattle.std.proofs.lemmas.Bool.{and_parts, and_from, not-true}
use Rattle.verb_table.specs.Table.{Choice, IsCalled, Row, Text, accepts, is_flag, verb_table}
use Rattle.sil_words.specs.Language.{IsReading, Reading, choice_named, value_of}
use Rattle.sil_words.specs.Splitting.{are_taken, givens_of, position, takes_told}
use Rattle.sil_words.proofs.Lexing.{is_name}
use Rattle.sil_words.proofs.Passing.{IsTable, same_as_itself, same_text}
use Rattle.sil_words.proofs.Accepts.{reading_accepts, takes_no_dash}

-- ---- the table

-- no two of them have one name
abbrev are_apart : List Choice → Bool
are_apart [] = true
are_apart (c ∷ cs) = not (list_any (λ d. bytes_eq d.name c.name) cs) && are_apart cs

abbrev is_sound : List Choice → Bool
is_sound cs = not (is_some (choice_named cs position)) && (list_all (λ c. is_name c.name) cs && (takes_no_dash cs && are_apart cs))

all_sound : list_all (λ row. is_sound row.choices) verb_table ≡ true
unfolding verb_table
all_sound = refl

pub record IsSound (cs : List Choice) : Type 0 where
  pub table : IsTable cs
  pub dash : takes_no_dash cs ≡ true
  pub apart : are_apart cs ≡ true

none_is : {X : Type 0} (o : Option X) → not (is_some o) ≡ true → o ≡ None
none_is None h = refl
none_is (Some x) h = cc

found_passes : {X : Type 0} (p q : X → Bool) (xs : List X) (x : X) → find q xs ≡ Some x → list_all p xs ≡ true → p x ≡ true
found_passes p q [] x e all = cc
found_passes {X} p q (y ∷ ys) x e all = by (q y) e (found_passes p q ys x)
  where
    by : (b : Bool) → cond b (Some y) (find q ys) ≡ Some x → (find q ys ≡ Some x → list_all p ys ≡ true → p x ≡ true) → p x ≡ true
    by true e ih = let same : y ≡ x = cc in ap p (sym same) ∙ (and_parts (p y) _ all).0
    by false e ih = ih e (and_parts (p y) _ all).1

pub sound : (row : Row) → IsCalled row → IsSound row.choices
sound row called =
    let cs = row.choices in
    let all = found_passes (λ r. is_sound r.choices) (λ r. bytes_eq r.word called.0) verb_table row called.1 all_sound in
    let unplaced = and_parts (not (is_some (choice_named cs position))) _ all in
    let named = and_parts (list_all (λ c. is_name c.name) cs) _ unplaced.1 in
    let last = and_parts (takes_no_dash cs) _ named.1 in
    record { table = record { unplaced = none_is _ unplaced.0; named = named.0 }; dash = last.0; apart = last.1 }

-- ---- each option is the first of its name

found_any : (q : Choice → Bool) (cs : List Choice) (c : Choice) → find q cs ≡ Some c → list_any q cs ≡ true
found_any q [] c e = cc
found_any q (d ∷ cs) c e = by (q d) e (found_any q cs c)
  where
    by : (b : Bool) → cond b (Some d) (find q cs) ≡ Some c → (find q cs ≡ Some c → list_any q cs ≡ true) → (b || list_any q cs) ≡ true
    by true e ih = refl
    by false e ih = ih e

passes_each : (p : Choice → Bool) (cs : List Choice) → are_apart cs ≡ true → ((c : Choice) → choice_named cs c.name ≡ Some c → p c ≡ true)
    → list_all p cs ≡ true
passes_each p [] a h = refl
passes_each p (c ∷ cs) a h =
    let parts = and_parts (not (list_any (λ d. bytes_eq d.name c.name) cs)) _ a in
    let first : choice_named (c ∷ cs) c.name ≡ Some c = rw (same_as_itself c.name) refl in
    and_from _ _ (h c first) (passes_each p cs parts.1 (λ d e. h d (later d e (not-true _ parts.0))))
  where
    later : (d : Choice) → choice_named cs d.name ≡ Some d → list_any (λ x. bytes_eq x.name c.name) cs ≡ false → choice_named (c ∷ cs) d.name ≡ Some d
    later d e none = by (bytes_eq c.name d.name) refl
      where
        by : (b : Bool) → bytes_eq c.name d.name ≡ b → cond b (Some c) (choice_named cs d.name) ≡ Some d
        by false f = e
        by true f =
            let some : list_any (λ x. bytes_eq x.name c.name) cs ≡ true =
            ap (λ n. list_any (λ x. bytes_eq x.name n) cs) (same_text c.name d.name f) ∙ found_any (λ x. bytes_eq x.name d.name) cs d e in
            cc

-- each option of a reading takes the value that it is given
pub reading_taken : (row : Row) → IsSound row.choices → (words : List Text) (r : Reading) → IsReading row words r
    → are_taken row.choices (value_of (givens_of r)) ≡ true
reading_taken row s words r h = passes_each (λ c. takes_told c (value_of (givens_of r) c.name)) row.choices s.apart (λ c named. by c named (is_flag c) refl)
  where
    by : (c : Choice) → choice_named row.choices c.name ≡ Some c → (b : Bool) → is_flag c ≡ b
        → (b || option_map_or (accepts c.values) (value_of (givens_of r) c.name) true) ≡ true
    by c named true e = refl
    by c named false e = reading_accepts row s.table words r h c.name c named e
