-- A walk of `clap` over all the words after a verb passes exactly where they are split into pieces, and it keeps what these give.
use Rattle.std.proofs.Common.{◌≡◌, ◌⊎◌, inl, inr, ◌∙◌, refl, sym, ap, subst, ℕ, Bool, true, false, not, cond, ◌&&◌, ◌||◌, List, [], ◌∷◌, map, fold}
use Rattle.std.proofs.Common.{Some, None, arith}
use Rattle.std.specs.List.{list_all}
use Rattle.std.specs.Str.{bytes_eq}
use Rattle.std.proofs.lemmas.Bool.{and_from, and_parts, not-true, not_from_false, false_from_ne_true}
use Rattle.std.proofs.lemmas.Slice.Eq.{bytes_eq-Decides}
use Rattle.clap.specs.Walk.{Row, Walk, Held, has_row, settled, used, walked, with_default}
use Rattle.clap.specs.Faults.{check_fault, defaults_fault, settle_fault, turn_fault, use_fault, walk_fault}
use Rattle.clap.specs.Kinds.{Kinds, or_else}
use Rattle.clap.specs.declared.error.kind.ErrorKind.TheVariants as kind
use Rattle.verb_table.specs.Table.{Choice, Text, is_flag}
use Rattle.sil_words.specs.Language.{Given, choice_named}
use Rattle.sil_words.specs.Splitting.{position}
use Rattle.sil_words.proofs.Turns.{Pending, between, fault_in, rows_in, placed, shape, or_else-first, or_else-second, or_else-both, trailing_turn}
use Rattle.sil_words.proofs.Turns.{trailing_next, trailing_stray}
use Rattle.sil_words.proofs.Rules.{Unplaced, built_rules, chosen, id_found, position_found, first_found, second_found}
use Rattle.sil_words.proofs.Lexing.{is_name}
use Rattle.sil_words.proofs.Rows.{more, has_row_more, word_used, word_passes}

-- the choices can be told apart from the positional word, and be spelled
pub record IsTable (cs : List Choice) : Type 0 where
  pub unplaced : Unplaced cs
  pub named : list_all (λ c. is_name c.name) cs ≡ true

-- ---- choices by their names

pub same_text : (a b : Text) → bytes_eq a b ≡ true → a ≡ b
same_text a b h = (bytes_eq-Decides a b).0 h

pub same_as_itself : (a : Text) → bytes_eq a a ≡ true
same_as_itself a = (bytes_eq-Decides a a).1 refl

-- a choice that was found by its name
pub record IsFound (cs : List Choice) (name : Text) (c : Choice) : Type 0 where
  pub same : c.name ≡ name
  pub itself : choice_named cs c.name ≡ Some c
  pub spelled : is_name c.name ≡ true

pub named_is : (cs : List Choice) (name : Text) (c : Choice) → choice_named cs name ≡ Some c → c.name ≡ name
named_is [] name c e = cc
named_is (d ∷ cs) name c e = by (bytes_eq d.name name) refl (named_is cs name c) e
  where
    by : (b : Bool) → bytes_eq d.name name ≡ b → (choice_named cs name ≡ Some c → c.name ≡ name) → cond b (Some d) (choice_named cs name) ≡ Some c
        → c.name ≡ name
    by true h ih e =
        let same : d ≡ c = cc in
        ap (λ x. x.name) (sym same) ∙ same_text d.name name h
    by false h ih e = ih e

pub each_named : (p : Choice → Bool) (cs : List Choice) (name : Text) (c : Choice) → list_all p cs ≡ true → choice_named cs name ≡ Some c → p c ≡ true
each_named p [] name c all e = cc
each_named p (d ∷ cs) name c all e = by (bytes_eq d.name name) (each_named p cs name c (and_parts (p d) _ all).1) e
  where
    by : (b : Bool) → (choice_named cs name ≡ Some c → p c ≡ true) → cond b (Some d) (choice_named cs name) ≡ Some c → p c ≡ true
    by true ih e =
        let same : d ≡ c = cc in
        ap p (sym same) ∙ (and_parts (p d) _ all).0
    by false ih e = ih e

pub found_by : (cs : List Choice) → IsTable cs → (name : Text) (c : Choice) → choice_named cs name ≡ Some c → IsFound cs name c
found_by cs t name c e =
    let same = named_is cs name c e in
    record { same = same; itself = ap (choice_named cs) same ∙ e; spelled = each_named (λ d. is_name d.name) cs name c t.named e }

pub not_position : (cs : List Choice) → IsTable cs → (c : Choice) → choice_named cs c.name ≡ Some c → bytes_eq c.name position ≡ false
not_position cs t c e = false_from_ne_true _ (λ h.
    let same = same_text c.name position h in
    let bad : Some c ≡ None = sym e ∙ ap (choice_named cs) same ∙ t.unplaced in
    cc)

-- ---- what is pending

pub option_pending : (cs : List Choice) (c : Choice) → choice_named cs c.name ≡ Some c → (is_flag c) ≡ false → (rows : List Row) (v : Text)
    → fault_in (built_rules cs) rows (Some (c.name, v ∷ [])) ≡ use_fault false (chosen c.name c.is_required false) (v ∷ []) rows
option_pending cs c e f rows v = rw (id_found cs c.name c e, f) refl

pub option_pending_rows : (cs : List Choice) (c : Choice) → choice_named cs c.name ≡ Some c → (is_flag c) ≡ false → (rows : List Row) (v : Text)
    → rows_in (built_rules cs) rows (Some (c.name, v ∷ [])) ≡ used (chosen c.name c.is_required false) (v ∷ []) rows
option_pending_rows cs c e f rows v = rw (id_found cs c.name c e, f) refl

pub option_empty : (cs : List Choice) (c : Choice) → choice_named cs c.name ≡ Some c → (is_flag c) ≡ false → (rows : List Row)
    → fault_in (built_rules cs) rows (Some (c.name, [])) ≡ kind.InvalidValue ∷ []
option_empty cs c e f rows = rw (id_found cs c.name c e, f) refl

pub word_pending : (cs : List Choice) → IsTable cs → (rows : List Row) (x : Text)
    → fault_in (built_rules cs) rows (Some (position, x ∷ [])) ≡ use_fault false placed (x ∷ []) rows
word_pending cs t rows x = rw (position_found cs t.unplaced) refl

pub word_pending_rows : (cs : List Choice) → IsTable cs → (rows : List Row) (x : Text)
    → rows_in (built_rules cs) rows (Some (position, x ∷ [])) ≡ used placed (x ∷ []) rows
word_pending_rows cs t rows x = rw (position_found cs t.unplaced) refl

-- ---- a whole walk

-- what the checks after the walk make of the rows
abbrev pub after_fault : List Choice → List Row → Kinds
after_fault cs rows = or_else (defaults_fault rows (built_rules cs)) (check_fault (shape (built_rules cs)) (fold with_default rows (built_rules cs)) false)

abbrev pub end_of : List Choice → Walk → List Text → Held
end_of cs w words = (fold (walked (built_rules cs) []) w words).held

pub record Passes (cs : List Choice) (w : Walk) (words : List Text) : Type 0 where
  pub walk : walk_fault (shape (built_rules cs)) [] w words ≡ []
  pub settle : settle_fault (built_rules cs) false (end_of cs w words) ≡ []
  pub after : after_fault cs (settled (built_rules cs) (end_of cs w words)).rows ≡ []

-- the walk passes, and ends with these rows
pub record WalksTo (cs : List Choice) (w : Walk) (words : List Text) (rows : List Row) : Type 0 where
  pub walk : walk_fault (shape (built_rules cs)) [] w words ≡ []
  pub settle : settle_fault (built_rules cs) false (end_of cs w words) ≡ []
  pub ends : (settled (built_rules cs) (end_of cs w words)).rows ≡ rows

pub turn_passes : (cs : List Choice) (w : Walk) (x : Text) (xs : List Text) → Passes cs w (x ∷ xs) → turn_fault (shape (built_rules cs)) [] w x ≡ []
unfolding walk_fault
turn_passes cs w x xs p = or_else-first _ _ p.walk

pub rest_passes : (cs : List Choice) (w : Walk) (x : Text) (xs : List Text) → Passes cs w (x ∷ xs) → (v : Walk) → walked (built_rules cs) [] w x ≡ v
    → Passes cs v xs
unfolding walk_fault
rest_passes cs w x xs p v e = subst (λ (u : Walk). Passes cs u xs) e (record { walk = or_else-second _ _ p.walk; settle = p.settle; after = p.after })

pub walks_on : (cs : List Choice) (w : Walk) (x : Text) (xs : List Text) (v : Walk) (rows : List Row) → turn_fault (shape (built_rules cs)) [] w x ≡ []
    → walked (built_rules cs) [] w x ≡ v → WalksTo cs v xs rows → WalksTo cs w (x ∷ xs) rows
unfolding walk_fault
walks_on cs w x xs v rows t e p =
    let q = subst (λ (u : Walk). WalksTo cs u xs rows) (sym e) p in
    record { walk = or_else-both _ _ t q.walk; settle = q.settle; ends = q.ends }

-- ---- what is given, one after the other

abbrev pub fresh : List Row → List Given → Bool
fresh rows [] = true
fresh rows (g ∷ gs) = not (has_row g.name rows) && fresh (more rows g) gs

abbrev pub extended : List Row → List Given → List Row
extended rows [] = rows
extended rows (g ∷ gs) = extended (more rows g) gs

-- the positional word that may come next, the first or the second
abbrev pub place : List Row → ℕ
place rows = cond (has_row position rows) 2 1

pub place_after : (rows : List Row) (g : Given) → bytes_eq g.name position ≡ false → place (more rows g) ≡ place rows
place_after rows g h = ap (λ b. cond b 2 1) (has_row_more position rows g ∙ ap (λ b. has_row position rows || b) h ∙ by (has_row position rows))
  where
    by : (b : Bool) → (b || false) ≡ b
    by true = refl
    by false = refl

pub place_second : (rows : List Row) (g : Given) → bytes_eq g.name position ≡ true → place (more rows g) ≡ 2
place_second rows g h = ap (λ b. cond b 2 1) (has_row_more position rows g ∙ ap (λ b. has_row position rows || b) h ∙ by (has_row position rows))
  where
    by : (b : Bool) → (b || true) ≡ true
    by true = refl
    by false = refl

pub place_first : (rows : List Row) → ◌≡◌ {A = ℕ} 1 (place rows) → has_row position rows ≡ false
place_first rows e = by (has_row position rows) e
  where
    by : (b : Bool) → ◌≡◌ {A = ℕ} 1 (cond b 2 1) → b ≡ false
    by true e = absurd (omega arith)
    by false e = refl

abbrev pub a_word : Text → Given
a_word word = record { name = position; value = word }

-- ---- words after `--`

-- the words give their positional words after these rows, and the checks pass
pub record GivesFurther (cs : List Choice) (rows : List Row) (words : List Text) : Type 0 where
  pub fresh : fresh rows (map a_word words) ≡ true
  pub after : after_fault cs (extended rows (map a_word words)) ≡ []

abbrev pub InPlace : List Choice → List Row → Pending → ℕ → Type 0
InPlace cs rows p n = fault_in (built_rules cs) rows p ≡ [] → n ≡ place (rows_in (built_rules cs) rows p)

pub word_in_place : (cs : List Choice) → IsTable cs → (rows : List Row) (x : Text) → has_row position rows ≡ false → InPlace cs rows (Some (position, x ∷ [])) 2
word_in_place cs t rows x h = λ settles. sym (ap place (word_pending_rows cs t rows x ∙ word_used x rows h) ∙ place_second rows (a_word x) refl)

pub trailing_gives : (cs : List Choice) → IsTable cs → (words : List Text) (rows : List Row) (p : Pending) (n : ℕ) → (n ≡ 1) ⊎ (n ≡ 2) → InPlace cs rows p n
    → Passes cs (between rows p n true) words → (fault_in (built_rules cs) rows p ≡ []) × GivesFurther cs (rows_in (built_rules cs) rows p) words
trailing_gives cs t [] rows p n at i h = (h.settle, record { fresh = refl; after = h.after })
trailing_gives cs t (x ∷ xs) rows p n (inr two) i h =
    let stray = sym (trailing_stray (built_rules cs) rows p x (second_found cs))
    ∙ ap (λ m. turn_fault (shape (built_rules cs)) [] (between rows p m true) x) (sym two)
    ∙ turn_passes cs _ x xs h in
    cc
trailing_gives cs t (x ∷ xs) rows p n (inl one) i h =
    let h1 = subst (λ (m : ℕ). Passes cs (between rows p m true) (x ∷ xs)) one h in
    let settles : fault_in (built_rules cs) rows p ≡ [] = sym (trailing_turn (built_rules cs) rows p x (first_found cs)) ∙ turn_passes cs _ x xs h1 in
    let old = rows_in (built_rules cs) rows p in
    let no_word : has_row position old ≡ false = place_first old (sym one ∙ i settles) in
    let rest = trailing_gives cs t xs old (Some (position, x ∷ [])) 2 (inr refl) (word_in_place cs t old x no_word)
    (rest_passes cs _ x xs h1 _ (trailing_next (built_rules cs) rows p x (first_found cs))) in
    let new = word_pending_rows cs t old x ∙ word_used x old no_word in
    let gives = subst (λ (r : List Row). GivesFurther cs r xs) new rest.1 in
    (settles, record { fresh = and_from _ _ (not_from_false _ no_word) gives.fresh; after = gives.after })

pub trailing_walks : (cs : List Choice) → IsTable cs → (words : List Text) (rows : List Row) (p : Pending) (n : ℕ) → fault_in (built_rules cs) rows p ≡ []
    → n ≡ place (rows_in (built_rules cs) rows p) → fresh (rows_in (built_rules cs) rows p) (map a_word words) ≡ true
    → WalksTo cs (between rows p n true) words (extended (rows_in (built_rules cs) rows p) (map a_word words))
unfolding walk_fault
trailing_walks cs t [] rows p n settles i f = record { walk = refl; settle = settles; ends = refl }
trailing_walks cs t (x ∷ xs) rows p n settles i f =
    let old = rows_in (built_rules cs) rows p in
    let no_word : has_row position old ≡ false = not-true _ (and_parts _ _ f).0 in
    let one : n ≡ 1 = i ∙ ap (λ b. cond b 2 1) no_word in
    let new = word_pending_rows cs t old x ∙ word_used x old no_word in
    let rest = trailing_walks cs t xs old (Some (position, x ∷ [])) 2 (word_pending cs t old x ∙ word_passes x old no_word)
    (word_in_place cs t old x no_word (word_pending cs t old x ∙ word_passes x old no_word))
    (subst (λ (r : List Row). fresh r (map a_word xs) ≡ true) (sym new) (and_parts _ _ f).1) in
    let rest_new = subst (λ (r : List Row). WalksTo cs (between old (Some (position, x ∷ [])) 2 true) xs (extended r (map a_word xs))) new rest in
    subst (λ (m : ℕ). WalksTo cs (between rows p m true) (x ∷ xs) (extended old (a_word x ∷ map a_word xs))) (sym one)
    (walks_on cs _ x xs _ _ (trailing_turn (built_rules cs) rows p x (first_found cs) ∙ settles)
    (trailing_next (built_rules cs) rows p x (first_found cs)) rest_new)
