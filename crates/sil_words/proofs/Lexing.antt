-- What `clap` sees in a word, and how a word is spelled.
use Rattle.std.proofs.Common.{◌≡◌, ◌∙◌, refl, sym, ap, ap₂, ℕ, zero, suc, Bool, true, false, not, cond, ◌&&◌, ◌||◌, ◌==◌, List, [], ◌∷◌, ◌++◌, Option}
use Rattle.std.proofs.Common.{Some, None, slice_get, arith, encode_utf8_all, IsUtf8}
use Rattle.std.specs.Prelude.{option_and_then}
use Rattle.std.specs.List.{list_any}
use Rattle.std.specs.Str.{bytes_eq, chars}
use lib.Utf8.{scalars}
use Rattle.std.proofs.lemmas.Bool.{eqb-true, eqb-false, or_parts, not-true}
use Rattle.std.proofs.lemmas.Str.{chars-encodes, IsUtf8-drop, IsCharBoundary-after_ascii}
use Rattle.clap.specs.Lexer.{has_byte, long_of, long_of_rest, name_and_value, short_of, short_of_rest, strip_byte}
use Rattle.clap.proofs.CutLemmas.{Lacks}
use Rattle.clap.proofs.LexerLemmas.{name_and_value-at, name_and_value-without}
use Rattle.verb_table.specs.Table.{Text}
use Rattle.sil_words.specs.Language.{dashed, dashes, is_plain}

-- the text can name a choice
abbrev pub is_name : Text → Bool
is_name [] = false
is_name (x ∷ xs) = not (has_byte 61 (x ∷ xs))

pub lacks : (c : ℕ) (xs : List ℕ) → list_any (λ x. x == c) xs ≡ false → Lacks c xs
lacks c [] h i lt e = absurd (omega arith)
lacks c (x ∷ xs) h zero lt e = eqb-false x c (or_parts (x == c) _ h).0 e
lacks c (x ∷ xs) h (suc i) lt e = lacks c xs (or_parts (x == c) _ h).1 i (omega arith) e

cut : (c : ℕ) (xs : List ℕ) → list_any (λ x. x == c) xs ≡ true → (a : List ℕ) × (b : List ℕ) × (xs ≡ a ++ c ∷ b) × (list_any (λ x. x == c) a ≡ false)
cut c [] h = cc
cut c (x ∷ xs) h = by (x == c) refl (cut c xs) h
  where
    by : (t : Bool) → (x == c) ≡ t → (list_any (λ y. y == c) xs ≡ true → (a : List ℕ) × (b : List ℕ) × (xs ≡ a ++ c ∷ b) × (list_any (λ y. y == c) a ≡ false))
        → (t || list_any (λ y. y == c) xs) ≡ true → (a : List ℕ) × (b : List ℕ) × (x ∷ xs ≡ a ++ c ∷ b) × (list_any (λ y. y == c) a ≡ false)
    by true e ih h = ([], xs, ap (λ y. y ∷ xs) (eqb-true x c e), refl)
    by false e ih h =
        let r = ih h in
        (x ∷ r.0, r.1, ap (λ ys. x ∷ ys) r.2, rw e r.3)

-- ---- words that begin with `--`

pub flag_seen : (name : Text) → is_name name ≡ true → long_of (dashed name) ≡ Some (name, None)
flag_seen [] h = cc
flag_seen (x ∷ xs) h = ap Some (name_and_value-without (x ∷ xs) (lacks 61 (x ∷ xs) (not-true _ h)))

pub joined_seen : (name value : Text) → is_name name ≡ true → long_of (dashed (name ++ 61 ∷ value)) ≡ Some (name, Some value)
joined_seen [] value h = cc
joined_seen (x ∷ xs) value h = ap Some (name_and_value-at (x ∷ xs) value (lacks 61 (x ∷ xs) (not-true _ h)))

pub dashed_is_not_dashes : (name : Text) → is_name name ≡ true → bytes_eq (dashed name) dashes ≡ false
dashed_is_not_dashes [] h = cc
dashed_is_not_dashes (x ∷ xs) h = refl

pub joined_is_not_dashes : (name value : Text) → is_name name ≡ true → bytes_eq (dashed (name ++ 61 ∷ value)) dashes ≡ false
joined_is_not_dashes [] value h = cc
joined_is_not_dashes (x ∷ xs) value h = refl

long_shape : (x : Text) (p : Text × Option Text) → long_of x ≡ Some p → (y : ℕ) × (ys : Text) × (x ≡ dashed (y ∷ ys)) × (name_and_value (y ∷ ys) ≡ p)
long_shape [] p h = cc
long_shape (a ∷ []) p h = by (a == 45) h
  where
    by : (t : Bool) → option_and_then long_of_rest (option_and_then (strip_byte 45) (cond t (Some []) None)) ≡ Some p
        → (y : ℕ) × (ys : Text) × (a ∷ [] ≡ dashed (y ∷ ys)) × (name_and_value (y ∷ ys) ≡ p)
    by true h = cc
    by false h = cc
long_shape (a ∷ b ∷ rest) p h = by (a == 45) refl (b == 45) refl rest h
  where
    by : (t : Bool) → (a == 45) ≡ t → (u : Bool) → (b == 45) ≡ u → (rest : Text)
        → option_and_then long_of_rest (option_and_then (strip_byte 45) (cond t (Some (b ∷ rest)) None)) ≡ Some p
        → (y : ℕ) × (ys : Text) × (a ∷ b ∷ rest ≡ dashed (y ∷ ys)) × (name_and_value (y ∷ ys) ≡ p)
    by false e u f rest h = cc
    by true e false f rest h =
        let g : None ≡ Some p = rw f at h in
        cc
    by true e true f [] h =
        let g : None ≡ Some p = rw f at h in
        cc
    by true e true f (y ∷ ys) h =
        let g : Some (name_and_value (y ∷ ys)) ≡ Some p = rw f at h in
        (y, ys, ap₂ (λ c d. c ∷ d ∷ y ∷ ys) (eqb-true a 45 e) (eqb-true b 45 f), cc)

pub flag_spelled : (x name : Text) → long_of x ≡ Some (name, None) → x ≡ dashed name
flag_spelled x name h =
    let r = long_shape x (name, None) h in
    r.2 ∙ ap dashed (by (r.0 ∷ r.1) (has_byte 61 (r.0 ∷ r.1)) refl r.3)
  where
    by : (text : Text) (b : Bool) → has_byte 61 text ≡ b → name_and_value text ≡ (name, None) → text ≡ name
    by text true e n =
        let second : (name_and_value text).1 ≡ None = ap (λ p. p.1) n in
        let some = rw e at second in
        cc
    by text false e n = sym (ap (λ p. p.0) (name_and_value-without text (lacks 61 text e))) ∙ ap (λ p. p.0) n

pub joined_spelled : (x name value : Text) → long_of x ≡ Some (name, Some value) → x ≡ dashed (name ++ 61 ∷ value)
joined_spelled x name value h =
    let r = long_shape x (name, Some value) h in
    r.2 ∙ ap dashed (by (r.0 ∷ r.1) (has_byte 61 (r.0 ∷ r.1)) refl r.3)
  where
    by : (text : Text) (b : Bool) → has_byte 61 text ≡ b → name_and_value text ≡ (name, Some value) → text ≡ name ++ 61 ∷ value
    by text false e n =
        let second : (name_and_value text).1 ≡ Some value = ap (λ p. p.1) n in
        let none = rw e at second in
        cc
    by text true e n =
        let r = cut 61 text e in
        let is : ◌≡◌ {A = Text × Option Text} (r.0, Some r.1) (name, Some value) = sym (name_and_value-at r.0 r.1 (lacks 61 r.0 r.3))
        ∙ ap name_and_value (sym r.2) ∙ n in
        let same_name : r.0 ≡ name = ap (λ (p : Text × Option Text). p.0) is in
        let second : Some r.1 ≡ Some value = ap (λ (p : Text × Option Text). p.1) is in
        let same_value : r.1 ≡ value = cc in
        r.2 ∙ ap₂ (λ a b. a ++ 61 ∷ b) same_name same_value

-- ---- words that do not

pub record IsSeenPlain (x : Text) : Type 0 where
  pub dashes : bytes_eq x dashes ≡ false
  pub long : long_of x ≡ None
  pub short : short_of x ≡ None

pub plain_from : (x : Text) → IsSeenPlain x → is_plain x ≡ true
plain_from [] s = refl
plain_from (a ∷ []) s = by (a == 45) refl
  where
    by : (t : Bool) → (a == 45) ≡ t → is_plain (a ∷ []) ≡ true
    by true e = rw e refl
    by false e = rw e refl
plain_from (a ∷ b ∷ rest) s = by (a == 45) refl (b == 45) refl rest s
  where
    by : (t : Bool) → (a == 45) ≡ t → (u : Bool) → (b == 45) ≡ u → (rest : Text) → IsSeenPlain (a ∷ b ∷ rest) → is_plain (a ∷ b ∷ rest) ≡ true
    by false e u f rest s = rw e refl
    by true e true f [] s =
        let g : true ≡ false = rw (e, f) at s.dashes in
        cc
    by true e true f (y ∷ ys) s =
        let g = rw (e, f) at s.long in
        cc
    by true e false f rest s =
        let g = rw (e, f) at s.short in
        cc

pub seen_plain : (x : Text) → is_plain x ≡ true → IsSeenPlain x
seen_plain [] h = record { dashes = refl; long = refl; short = refl }
seen_plain (a ∷ []) h = by (a == 45) refl
  where
    by : (t : Bool) → (a == 45) ≡ t → IsSeenPlain (a ∷ [])
    by true e = record { dashes = rw e refl; long = rw e refl; short = rw e refl }
    by false e = record { dashes = rw e refl; long = rw e refl; short = rw e refl }
seen_plain (a ∷ b ∷ rest) h = by (a == 45) refl h
  where
    by : (t : Bool) → (a == 45) ≡ t → ((t && false) || not t) ≡ true → IsSeenPlain (a ∷ b ∷ rest)
    by true e h = cc
    by false e h = record { dashes = rw e refl; long = rw e refl; short = rw e refl }

-- ---- words of short flags

abbrev pub HasFirstChar : Text → Type 0
HasFirstChar flags = (y : ℕ) × (ys : Text) × (flags ≡ y ∷ ys) × ((c : ℕ) × (slice_get (chars (y ∷ ys)) 0 ≡ Some c))

char_of : (y : ℕ) (ys : Text) → IsUtf8 (y ∷ ys) → (c : ℕ) × (slice_get (chars (y ∷ ys)) 0 ≡ Some c)
char_of y ys u = by u.0 u.1.0 u.1.1
  where
    by : (cs : List ℕ) → scalars cs ≡ true → encode_utf8_all cs ≡ y ∷ ys → (c : ℕ) × (slice_get (chars (y ∷ ys)) 0 ≡ Some c)
    by [] s e = cc
    by (c ∷ cs) s e = (c, ap (λ bs. slice_get (chars bs) 0) (sym e) ∙ ap (λ bs. slice_get bs 0) (chars-encodes (c ∷ cs) s))

-- a short flag has a first character, in a word that is text
pub first_char : (x flags : Text) → IsUtf8 x → short_of x ≡ Some flags → HasFirstChar flags
first_char [] flags u h = cc
first_char (a ∷ []) flags u h = by (a == 45) h
  where
    by : (t : Bool) → option_and_then short_of_rest (cond t (Some []) None) ≡ Some flags → HasFirstChar flags
    by true h = cc
    by false h = cc
first_char (a ∷ b ∷ rest) flags u h = by (a == 45) refl h
  where
    flags_are : (v : Bool) → cond {A = Option Text} v None (Some (b ∷ rest)) ≡ Some flags → flags ≡ b ∷ rest
    flags_are true h = cc
    flags_are false h = cc

    by : (t : Bool) → (a == 45) ≡ t → option_and_then short_of_rest (cond t (Some (b ∷ rest)) None) ≡ Some flags → HasFirstChar flags
    by false e h = cc
    by true e h =
        let is : a ≡ 45 = eqb-true a 45 e in
        let utf8 : IsUtf8 (b ∷ rest) = IsUtf8-drop (a ∷ b ∷ rest) 1 u (IsCharBoundary-after_ascii (a ∷ b ∷ rest) 0 u (omega arith) (omega arith)) in
        (b, rest, flags_are (b == 45) h, char_of b rest utf8)
