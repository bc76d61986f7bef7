-- All that is given, as flags and options on the one side and positional words on the other.
use Rattle.std.proofs.Common.{◌≡◌, ◌∙◌, refl, sym, ap, ap₂, Bool, true, false, not, cond, ◌&&◌, ◌||◌, List, [], ◌∷◌, ◌++◌, map, find, Option, Some}
use Rattle.std.proofs.Common.{None, option_map, is_some}
use Rattle.std.specs.List.{list_all}
use Rattle.std.specs.Option.{option_map_or}
use Rattle.std.specs.Str.{bytes_eq}
use Rattle.std.proofs.lemmas.Bool.{and_parts, false_from_ne_true}
use Rattle.verb_table.specs.Table.{Choice, Text, is_flag}
use Rattle.sil_words.specs.Language.{Given, Piece, flag, joined, apart, plain, Reading, choice_named, first_word, given_flag, is_given, is_once}
use Rattle.sil_words.specs.Language.{is_one, options_in, options_of, or_no_words, plain_in, positionals_of, value_of}
use Rattle.sil_words.specs.Splitting.{given_by, given_further, givens_of, is_option_of, is_split_piece, position}
use Rattle.sil_words.proofs.Passing.{IsTable, a_word, same_text}

pub given_found : (gs : List Given) (name : Text) (value : Text) → value_of gs name ≡ Some value → is_given gs name ≡ true
given_found [] name value h = cc
given_found (g ∷ gs) name value h = by (bytes_eq g.name name) h (given_found gs name value)
  where
    by : (b : Bool) → option_map (λ x. x.value) (cond b (Some g) (find (λ x. bytes_eq x.name name) gs)) ≡ Some value
        → (value_of gs name ≡ Some value → is_given gs name ≡ true)
        → (b || is_given gs name) ≡ true
    by true h ih = refl
    by false h ih = ih h

-- at most one word
abbrev pub is_few : List Text → Bool
is_few [] = true
is_few (word ∷ []) = true
is_few _ = false

-- what is given, seen as options and words
pub record SeenAs (gs os : List Given) (ws : List Text) : Type 0 where
  pub given : (name : Text) → bytes_eq position name ≡ false → is_given gs name ≡ is_given os name
  pub value : (name : Text) → bytes_eq position name ≡ false → value_of gs name ≡ value_of os name
  pub word : value_of gs position ≡ first_word ws
  pub stands : is_given gs position ≡ is_some (first_word ws)
  pub once : is_once gs ≡ (is_once os && is_few ws)

with_word : (x : Text) (gs os : List Given) (ws : List Text) → SeenAs gs os ws → SeenAs (a_word x ∷ gs) os (x ∷ ws)
with_word x gs os ws s = record {
  given = λ name differs. ap (λ b. b || is_given gs name) differs ∙ s.given name differs;
  value = λ name differs. ap (λ b. option_map (λ g. g.value) (cond b (Some (a_word x)) (find (λ g. bytes_eq g.name name) gs))) differs ∙ s.value name differs;
  word = refl;
  stands = refl;
  once = ap₂ (λ a b. not a && b) s.stands s.once ∙ by (is_once os) ws;
}
  where
    by : (o : Bool) (ws : List Text) → (not (is_some (first_word ws)) && (o && is_few ws)) ≡ (o && is_few (x ∷ ws))
    by o [] = refl
    by true (y ∷ ys) = refl
    by false (y ∷ ys) = refl

with_option : (g : Given) (gs os : List Given) (ws : List Text) → bytes_eq g.name position ≡ false → bytes_eq position g.name ≡ false
    → SeenAs gs os ws → SeenAs (g ∷ gs) (g ∷ os) ws
with_option g gs os ws differs apart_from s = record {
  given = λ name d. ap (λ b. bytes_eq g.name name || b) (s.given name d);
  value = λ name d. by_value name (bytes_eq g.name name) (s.value name d);
  word = ap (λ b. option_map (λ h. h.value) (cond b (Some g) (find (λ h. bytes_eq h.name position) gs))) differs ∙ s.word;
  stands = ap (λ b. b || is_given gs position) differs ∙ s.stands;
  once = ap₂ (λ a b. not a && b) (s.given g.name apart_from) s.once ∙ by (is_given os g.name) (is_once os) (is_few ws);
}
  where
    by : (a o w : Bool) → (not a && (o && w)) ≡ ((not a && o) && w)
    by true o w = refl
    by false o w = refl

    by_value : (name : Text) (b : Bool) → value_of gs name ≡ value_of os name
        → option_map (λ h. h.value) (cond b (Some g) (find (λ h. bytes_eq h.name name) gs)) ≡ option_map (λ h. h.value)
        (cond b (Some g) (find (λ h. bytes_eq h.name name) os))
    by_value name true e = refl
    by_value name false e = e

further_seen : (words : List Text) → SeenAs (map (λ word. record { name = position; value = word }) words) [] words
further_seen [] = record { given = λ name d. refl; value = λ name d. refl; word = refl; stands = refl; once = refl }
further_seen (w ∷ words) = with_word w (map a_word words) [] words (further_seen words)

module _ (cs : List Choice) (t : IsTable cs) where
  -- the name of a choice is not that of the positional word
  choice_differs : (name : Text) (c : Choice) → choice_named cs name ≡ Some c → (bytes_eq name position ≡ false) × (bytes_eq position name ≡ false)
  choice_differs name c e = (
    false_from_ne_true _ (λ h.
        let bad : Some c ≡ None = sym e ∙ ap (choice_named cs) (same_text name position h) ∙ t.unplaced in
        cc),
    false_from_ne_true _ (λ h.
        let bad : Some c ≡ None = sym e ∙ ap (choice_named cs) (sym (same_text position name h)) ∙ t.unplaced in
        cc),
  )

  named_differs : (test : Choice → Bool) (name : Text) → option_map_or test (choice_named cs name) false ≡ true
      → (bytes_eq name position ≡ false) × (bytes_eq position name ≡ false)
  named_differs test name h = by (choice_named cs name) refl h
    where
      by : (o : Option Choice) → choice_named cs name ≡ o → option_map_or test o false ≡ true
          → (bytes_eq name position ≡ false) × (bytes_eq position name ≡ false)
      by None e h = cc
      by (Some c) e h = choice_differs name c e

  pieces_seen : (pieces : List Piece) (f : Option (List Text)) → list_all (is_split_piece cs) pieces ≡ true
      → SeenAs (map given_by pieces ++ given_further f) (options_in pieces) (plain_in pieces ++ or_no_words f)
  pieces_seen [] None h = record { given = λ name d. refl; value = λ name d. refl; word = refl; stands = refl; once = refl }
  pieces_seen [] (Some words) h = further_seen words
  pieces_seen (flag name ∷ pieces) f h =
      let p = and_parts _ _ h in
      let d = named_differs (λ c. (is_flag c)) name p.0 in
      with_option (given_flag name) _ _ _ d.0 d.1 (pieces_seen pieces f p.1)
  pieces_seen (joined name value ∷ pieces) f h =
      let p = and_parts _ _ h in
      let d = named_differs (λ c. not (is_flag c)) name p.0 in
      with_option (record { name = name; value = value }) _ _ _ d.0 d.1 (pieces_seen pieces f p.1)
  pieces_seen (apart name value ∷ pieces) f h =
      let p = and_parts _ _ h in
      let o = and_parts (is_option_of cs name) _ p.0 in
      let d = named_differs (λ c. not (is_flag c)) name o.0 in
      with_option (record { name = name; value = value }) _ _ _ d.0 d.1 (pieces_seen pieces f p.1)
  pieces_seen (plain word ∷ pieces) f h = with_word word _ _ _ (pieces_seen pieces f (and_parts _ _ h).1)

  pub views : (r : Reading) → list_all (is_split_piece cs) r.pieces ≡ true → SeenAs (givens_of r) (options_of r) (positionals_of r)
  views r h = pieces_seen r.pieces r.further h

-- the positional word is called like no choice
pub first_differs : (c : Choice) (cs : List Choice) → choice_named (c ∷ cs) position ≡ None → bytes_eq position c.name ≡ false
first_differs c cs unplaced = by (bytes_eq c.name position) refl unplaced
  where
    by : (b : Bool) → bytes_eq c.name position ≡ b → cond b (Some c) (choice_named cs position) ≡ None → bytes_eq position c.name ≡ false
    by true e h = cc
    by false e h = false_from_ne_true _ (λ q.
        let same_name = same_text position c.name q in
        let itself : bytes_eq c.name position ≡ true = ap (λ m. bytes_eq m position) (sym same_name) in
        cc)

pub rest_unplaced : (c : Choice) (cs : List Choice) → choice_named (c ∷ cs) position ≡ None → choice_named cs position ≡ None
rest_unplaced c cs unplaced = by (bytes_eq c.name position) unplaced
  where
    by : (b : Bool) → cond b (Some c) (choice_named cs position) ≡ None → choice_named cs position ≡ None
    by true h = cc
    by false h = h

pub required_same : (cs : List Choice) → choice_named cs position ≡ None → (gs os : List Given)
    → ((name : Text) → bytes_eq position name ≡ false → is_given gs name ≡ is_given os name)
    → list_all (λ c. not c.is_required || is_given gs c.name) cs ≡ list_all (λ c. not c.is_required || is_given os c.name) cs
required_same [] unplaced gs os same = refl
required_same (c ∷ cs) unplaced gs os same =
    ap₂ (λ a b. (not c.is_required || a) && b) (same c.name (first_differs c cs unplaced)) (required_same cs (rest_unplaced c cs unplaced) gs os same)

-- ---- exactly one word

pub one_word : (p : Text → Bool) (ws : List Text) → is_few ws ≡ true → option_map_or p (first_word ws) false ≡ true → is_one p ws ≡ true
one_word p [] few h = h
one_word p (x ∷ []) few h = h
one_word p (x ∷ y ∷ ys) few h = few

pub one_first : (p : Text → Bool) (ws : List Text) → is_one p ws ≡ true
    → (is_few ws ≡ true) × (option_map_or p (first_word ws) false ≡ true) × (is_some (first_word ws) ≡ true)
one_first p [] h = cc
one_first p (x ∷ []) h = (refl, h, refl)
one_first p (x ∷ y ∷ ys) h = cc
