-- Where the values are accepted, a split is a reading; and a reading is a split whose values are accepted.
use Rattle.std.proofs.Common.{◌≡◌, ◌∙◌, refl, sym, ap, Bool, true, false, not, cond, ◌&&◌, ◌||◌, List, [], ◌∷◌, ◌++◌, map, find, Option, Some, None, option_map}
use Rattle.std.specs.List.{list_all}
use Rattle.std.specs.Option.{option_map_or}
use Rattle.std.specs.Str.{bytes_eq}
use Rattle.std.proofs.lemmas.Bool.{and_parts, and_from, not-true}
use Rattle.verb_table.specs.Table.{Choice, Row, Text, accepts, is_flag}
use Rattle.sil_words.specs.Language.{Given, IsReading, Piece, flag, joined, apart, plain, Reading, begins_with_dash, choice_named, is_dash}
use Rattle.sil_words.specs.Language.{is_flag_of, is_given, is_once, is_piece_of, is_plain, is_positional, is_value_of, value_of}
use Rattle.sil_words.specs.Splitting.{given_by, given_further, givens_of, position}
use Rattle.sil_words.specs.Splitting.{IsSplit, are_taken, is_option_of, is_split_piece, takes_told}
use Rattle.sil_words.specs.Language.{positionals_of}
use Rattle.sil_words.proofs.Views.{given_found, one_first, one_word, required_same, views}
use Rattle.sil_words.proofs.Passing.{IsTable, a_word, each_named, named_is, same_as_itself, same_text}

-- ---- what is given once is found

-- a test that each value passes which is found under its name, each given value passes
each_passes : (test : Text → Text → Bool) (gs : List Given) → is_once gs ≡ true → ((name value : Text) → value_of gs name ≡ Some value → test name value ≡ true)
    → list_all (λ g. test g.name g.value) gs ≡ true
each_passes test [] once h = refl
each_passes test (g ∷ gs) once h =
    let o = and_parts _ _ once in
    let here : value_of (g ∷ gs) g.name ≡ Some g.value = rw (same_as_itself g.name) refl in
    and_from _ _ (h g.name g.value here) (each_passes test gs o.1 (λ name value e. h name value (later name value e (not-true _ o.0))))
  where
    later : (name value : Text) → value_of gs name ≡ Some value → is_given gs g.name ≡ false → value_of (g ∷ gs) name ≡ Some value
    later name value e new = by (bytes_eq g.name name) refl
      where
        by : (b : Bool) → bytes_eq g.name name ≡ b → option_map (λ x. x.value) (cond b (Some g) (find (λ x. bytes_eq x.name name) gs)) ≡ Some value
        by false f = e
        by true f =
            let found : is_given gs g.name ≡ true = ap (is_given gs) (same_text g.name name f) ∙ given_found gs name value e in
            cc

-- ---- a split with accepted values

-- no option takes `-`
abbrev pub takes_no_dash : List Choice → Bool
takes_no_dash cs = list_all (λ c. not ((accepts c.values) (45 ∷ []))) cs

abbrev is_taken : List Choice → Text → Text → Bool
is_taken cs name value = option_map_or (λ c. (is_flag c) || (accepts c.values) value) (choice_named cs name) true

taken_value : (cs : List Choice) (gs : List Given) → are_taken cs (value_of gs) ≡ true → (name value : Text) → value_of gs name ≡ Some value
    → is_taken cs name value ≡ true
taken_value cs gs all name value e = by (choice_named cs name) refl
  where
    by : (o : Option Choice) → choice_named cs name ≡ o → option_map_or (λ c. (is_flag c) || (accepts c.values) value) o true ≡ true
    by None f = refl
    by (Some c) f =
        let own = each_named (λ d. takes_told d (value_of gs d.name)) cs name c all f in
        let value_is : value_of gs c.name ≡ Some value = ap (value_of gs) (named_is cs name c f) ∙ e in
        ap (λ o. (is_flag c) || option_map_or (accepts c.values) o true) (sym value_is) ∙ own

option_takes : (cs : List Choice) (name value : Text) → is_option_of cs name ≡ true → is_taken cs name value ≡ true → is_value_of cs name value ≡ true
option_takes cs name value = by (choice_named cs name)
  where
    join : (f a : Bool) → not f ≡ true → (f || a) ≡ true → (not f && a) ≡ true
    join true a g h = cc
    join false a g h = h

    by : (o : Option Choice) → option_map_or (λ c. not (is_flag c)) o false ≡ true → option_map_or (λ c. (is_flag c) || (accepts c.values) value) o true ≡ true
        → option_map_or (λ c. not (is_flag c) && (accepts c.values) value) o false ≡ true
    by None g h = g
    by (Some c) g h = join (is_flag c) ((accepts c.values) value) g h

no_dash : (cs : List Choice) (name value : Text) → takes_no_dash cs ≡ true → is_plain value ≡ true → is_value_of cs name value ≡ true
    → not (begins_with_dash value) ≡ true
no_dash cs name value none plain_value takes = by (is_dash value) refl plain_value
  where
    by : (b : Bool) → is_dash value ≡ b → (b || not (begins_with_dash value)) ≡ true → not (begins_with_dash value) ≡ true
    by false e h = h
    by true e h = absurd (dash (choice_named cs name) refl takes)
      where
        dash : (o : Option Choice) → choice_named cs name ≡ o → option_map_or (λ c. not (is_flag c) && (accepts c.values) value) o false ≡ true → ⊥
        dash None f t = cc
        dash (Some c) f t =
            let refuses = not-true _ (each_named (λ d. not ((accepts d.values) (45 ∷ []))) cs name c none f) in
            let accepts : (accepts c.values) (45 ∷ []) ≡ true = ap (accepts c.values) (sym (same_text value (45 ∷ []) e))
            ∙ (and_parts (not (is_flag c)) ((accepts c.values) value) t).1 in
            cc

piece_reads : (cs : List Choice) → takes_no_dash cs ≡ true → (piece : Piece) → is_split_piece cs piece ≡ true
    → is_taken cs (given_by piece).name (given_by piece).value ≡ true
    → is_piece_of cs piece ≡ true
piece_reads cs none (flag name) s t = s
piece_reads cs none (joined name value) s t = option_takes cs name value s t
piece_reads cs none (apart name value) s t =
    let p = and_parts (is_option_of cs name) (is_plain value) s in
    let takes = option_takes cs name value p.0 t in
    and_from _ _ takes (no_dash cs name value none p.1 takes)
piece_reads cs none (plain word) s t = s

pieces_read : (cs : List Choice) → takes_no_dash cs ≡ true → (pieces : List Piece) (more : List Given) → list_all (is_split_piece cs) pieces ≡ true
    → list_all (λ g. is_taken cs g.name g.value) (map given_by pieces ++ more) ≡ true → list_all (is_piece_of cs) pieces ≡ true
pieces_read cs none [] more s t = refl
pieces_read cs none (piece ∷ pieces) more s t =
    let p = and_parts _ _ s in
    let q = and_parts _ _ t in
    and_from _ _ (piece_reads cs none piece p.0 q.0) (pieces_read cs none pieces more p.1 q.1)

pub split_reads : (row : Row) → IsTable row.choices → (words : List Text) (r : Reading) → takes_no_dash row.choices ≡ true → IsSplit row.choices words r
    → are_taken row.choices (value_of (givens_of r)) ≡ true
    → option_map_or (is_positional row.positional) (value_of (givens_of r) position) false ≡ true → IsReading row words r
split_reads row t words r none s values positional =
    let v = views row.choices t r s.pieces in
    let once = and_parts _ _ (sym v.once ∙ s.once) in
    record {
      spelled = s.spelled;
      pieces = pieces_read row.choices none r.pieces (given_further r.further) s.pieces
          (each_passes (is_taken row.choices) (givens_of r) s.once (taken_value row.choices (givens_of r) values));
      once = once.0;
      required = sym (required_same row.choices t.unplaced _ _ v.given) ∙ s.required;
      positional = one_word (is_positional row.positional) (positionals_of r) once.1
          (ap (λ o. option_map_or (is_positional row.positional) o false) (sym v.word) ∙ positional);
    }

-- ---- a reading is a split

value_option : (cs : List Choice) (name value : Text) → is_value_of cs name value ≡ true → is_option_of cs name ≡ true
value_option cs name value = by (choice_named cs name)
  where
    by : (o : Option Choice) → option_map_or (λ c. not (is_flag c) && (accepts c.values) value) o false ≡ true
        → option_map_or (λ c. not (is_flag c)) o false ≡ true
    by None h = h
    by (Some c) h = (and_parts _ _ h).0

undashed_plain : (value : Text) → not (begins_with_dash value) ≡ true → is_plain value ≡ true
undashed_plain value h = by (is_dash value) h
  where
    by : (b : Bool) → not (begins_with_dash value) ≡ true → (b || not (begins_with_dash value)) ≡ true
    by true h = refl
    by false h = h

piece_splits : (cs : List Choice) (piece : Piece) → is_piece_of cs piece ≡ true → is_split_piece cs piece ≡ true
piece_splits cs (flag name) h = h
piece_splits cs (joined name value) h = value_option cs name value h
piece_splits cs (apart name value) h =
    let p = and_parts _ _ h in
    and_from _ _ (value_option cs name value p.0) (undashed_plain value p.1)
piece_splits cs (plain word) h = h

pub pieces_split : (cs : List Choice) (pieces : List Piece) → list_all (is_piece_of cs) pieces ≡ true → list_all (is_split_piece cs) pieces ≡ true
pieces_split cs [] h = refl
pieces_split cs (piece ∷ pieces) h =
    let p = and_parts _ _ h in
    and_from _ _ (piece_splits cs piece p.0) (pieces_split cs pieces p.1)

pub reading_splits : (row : Row) → IsTable row.choices → (words : List Text) (r : Reading) → IsReading row words r → IsSplit row.choices words r
reading_splits row t words r h =
    let pieces = pieces_split row.choices r.pieces h.pieces in
    let v = views row.choices t r pieces in
    let one = one_first (is_positional row.positional) (positionals_of r) h.positional in
    record {
      spelled = h.spelled;
      pieces = pieces;
      once = v.once ∙ and_from _ _ h.once one.0;
      required = required_same row.choices t.unplaced _ _ v.given ∙ h.required;
      positional = v.stands ∙ one.2;
    }

-- and its positional word is of its kind
pub reading_word : (row : Row) → IsTable row.choices → (words : List Text) (r : Reading) → IsReading row words r
    → option_map_or (is_positional row.positional) (value_of (givens_of r) position) false ≡ true
reading_word row t words r h =
    let v = views row.choices t r (pieces_split row.choices r.pieces h.pieces) in
    let one = one_first (is_positional row.positional) (positionals_of r) h.positional in
    ap (λ o. option_map_or (is_positional row.positional) o false) v.word ∙ one.1

-- ---- and its values are accepted

module _ (cs : List Choice) (t : IsTable cs) (name : Text) (c : Choice) (named : choice_named cs name ≡ Some c) (no_flag : (is_flag c) ≡ false) where
  value_accepted : (value : Text) → is_value_of cs name value ≡ true → (accepts c.values) value ≡ true
  value_accepted value h =
      let own : (not (is_flag c) && (accepts c.values) value) ≡ true = rw named at h in
      (and_parts _ _ own).1

  further_unnamed : (words : List Text) → value_of (map (λ word. record { name = position; value = word }) words) name ≡ None
  further_unnamed [] = refl
  further_unnamed (w ∷ words) = by (bytes_eq position name) refl (further_unnamed words)
    where
      by : (b : Bool) → bytes_eq position name ≡ b → value_of (map a_word words) name ≡ None
          → option_map (λ x. x.value) (cond b (Some (a_word w)) (find (λ x. bytes_eq x.name name) (map a_word words))) ≡ None
      by false e ih = ih
      by true e ih =
          let bad : Some c ≡ None = sym named ∙ ap (choice_named cs) (sym (same_text position name e)) ∙ t.unplaced in
          cc

  further_accepted : (f : Option (List Text)) (value : Text) → value_of (given_further f) name ≡ Some value → (accepts c.values) value ≡ true
  further_accepted None value e = cc
  further_accepted (Some words) value e =
      let none = further_unnamed words in
      cc

  piece_accepted : (piece : Piece) → is_piece_of cs piece ≡ true → bytes_eq (given_by piece).name name ≡ true → (accepts c.values) (given_by piece).value ≡ true
  piece_accepted (flag n) h e =
      let at_name : is_flag_of cs name ≡ true = ap (is_flag_of cs) (sym (same_text n name e)) ∙ h in
      let own : (is_flag c) ≡ true = rw named at at_name in
      cc
  piece_accepted (joined n v) h e = value_accepted v (ap (λ m. is_value_of cs m v) (sym (same_text n name e)) ∙ h)
  piece_accepted (apart n v) h e = value_accepted v (ap (λ m. is_value_of cs m v) (sym (same_text n name e)) ∙ (and_parts _ _ h).0)
  piece_accepted (plain word) h e =
      let bad : Some c ≡ None = sym named ∙ ap (choice_named cs) (sym (same_text position name e)) ∙ t.unplaced in
      cc

  pieces_accepted : (pieces : List Piece) (f : Option (List Text)) → list_all (is_piece_of cs) pieces ≡ true → (value : Text)
      → value_of (map given_by pieces ++ given_further f) name ≡ Some value → (accepts c.values) value ≡ true
  pieces_accepted [] f h value e = further_accepted f value e
  pieces_accepted (piece ∷ pieces) f h value e = by (bytes_eq (given_by piece).name name) refl e (pieces_accepted pieces f (and_parts _ _ h).1 value)
    where
      by : (b : Bool) → bytes_eq (given_by piece).name name ≡ b
          → option_map (λ x. x.value) (cond b (Some (given_by piece)) (find (λ x. bytes_eq x.name name) (map given_by pieces ++ given_further f))) ≡ Some value
          → (value_of (map given_by pieces ++ given_further f) name ≡ Some value → (accepts c.values) value ≡ true) → (accepts c.values) value ≡ true
      by false g e ih = ih e
      by true g e ih =
          let same : (given_by piece).value ≡ value = cc in
          ap (accepts c.values) (sym same) ∙ piece_accepted piece (and_parts _ _ h).0 g

pub reading_accepts : (row : Row) → IsTable row.choices → (words : List Text) (r : Reading) → IsReading row words r → (name : Text) (c : Choice)
    → choice_named row.choices name ≡ Some c → (is_flag c) ≡ false
    → option_map_or (accepts c.values) (value_of (givens_of r) name) true ≡ true
reading_accepts row t words r h name c named no_flag = by (value_of (givens_of r) name) refl
  where
    by : (o : Option Text) → value_of (givens_of r) name ≡ o → option_map_or (accepts c.values) o true ≡ true
    by None e = refl
    by (Some value) e = pieces_accepted row.choices t name c named no_flag r.pieces r.further h.pieces value e
