-- Words on which a walk of `clap` passes are split into pieces.
use Rattle.std.proofs.Common.{◌≡◌, ◌⊎◌, inl, inr, ◌∙◌, refl, sym, ap, subst, ℕ, Bool, true, false, List, [], ◌∷◌, ◌++◌, Option, Some, None, IsUtf8, option_map}
use Rattle.std.specs.List.{list_all}
use Rattle.std.specs.Str.{bytes_eq}
use Rattle.std.proofs.lemmas.Bool.{and_from, not_from_false}
use Rattle.clap.specs.Lexer.{long_of, short_of}
use Rattle.clap.specs.Walk.{Row, arg_by_long, has_row, takes_values, most_values, used}
use Rattle.clap.specs.Faults.{use_fault}
use Rattle.clap.specs.Kinds.{Kinds}
use Rattle.clap.specs.declared.error.kind.ErrorKind.{ErrorKind}
use Rattle.verb_table.specs.Table.{Choice, Text, is_flag}
use Rattle.sil_words.specs.Language.{Given, Piece, flag, joined, apart, plain, Reading, choice_named, dashed, dashes, given_flag, is_plain, words_of}
use Rattle.sil_words.specs.Language.{words_of_piece}
use Rattle.sil_words.specs.Splitting.{given_by, givens_of, position}
use Rattle.sil_words.specs.Splitting.{is_split_piece}
use Rattle.sil_words.proofs.Turns.{Pending, between, waits, starved, fault_in, rows_in, or_else-first, or_else-second, dashes_next, flag_turn}
use Rattle.sil_words.proofs.Turns.{flag_next, joined_turn, joined_next, apart_turn, apart_next, plain_turn, plain_next, stray_turn, unknown_turn}
use Rattle.sil_words.proofs.Turns.{valued_flag_turn, short_turn, waits_dashes_next, waits_plain_next, waits_short_turn, waits_long_turn, starved_turn}
use Rattle.sil_words.proofs.Turns.{starved_stray}
use Rattle.sil_words.proofs.Rules.{built_rules, chosen, chosen_of, id_found, long_found, short_found, first_found, second_found}
use Rattle.sil_words.proofs.Lexing.{IsSeenPlain, flag_spelled, joined_spelled, plain_from, HasFirstChar, first_char}
use Rattle.sil_words.proofs.Rows.{more, flag_used, option_used, word_used, flag_new, option_new}
use Rattle.sil_words.proofs.Passing.{IsTable, InPlace, Passes, after_fault, extended, fresh, place, found_by, same_text, same_as_itself, not_position}
use Rattle.sil_words.proofs.Passing.{option_pending, option_pending_rows, option_empty, word_pending_rows, turn_passes, rest_passes, place_after}
use Rattle.sil_words.proofs.Passing.{place_first, word_in_place, trailing_gives}

-- the words are split, into what is new after these rows, and the checks pass
pub record Accepted (cs : List Choice) (rows : List Row) (words : List Text) : Type 0 where
  pub reading : Reading
  pub spelled : words ≡ words_of reading
  pub pieces : list_all (is_split_piece cs) reading.pieces ≡ true
  pub fresh : fresh rows (givens_of reading) ≡ true
  pub after : after_fault cs (extended rows (givens_of reading)) ≡ []

with_piece : (cs : List Choice) (rows : List Row) (piece : Piece) (rest : List Text) → is_split_piece cs piece ≡ true
    → has_row (given_by piece).name rows ≡ false → Accepted cs (more rows (given_by piece)) rest → Accepted cs rows (words_of_piece piece ++ rest)
with_piece cs rows piece rest split new a = record {
  reading = record { pieces = piece ∷ a.reading.pieces; further = a.reading.further };
  spelled = ap (λ ws. words_of_piece piece ++ ws) a.spelled;
  pieces = and_from _ _ split a.pieces;
  fresh = and_from _ _ (not_from_false _ new) a.fresh;
  after = a.after;
}

abbrev option_given : Text → Text → Given
option_given name value = record { name = name; value = value }

-- an option of this name takes the first of the words
record TakesValue (cs : List Choice) (rows : List Row) (name : Text) (words : List Text) : Type 0 where
  value : Text
  rest : List Text
  spelled : words ≡ value ∷ rest
  is_plain : is_plain value ≡ true
  new : has_row name rows ≡ false
  accepted : Accepted cs (more rows (option_given name value)) rest

-- what passing walks over the words say, from between two pieces and from an option that waits for its value
record Reads (cs : List Choice) (words : List Text) : Type 0 where
  at_rest : (rows : List Row) (p : Pending) (n : ℕ) → (n ≡ 1) ⊎ (n ≡ 2) → InPlace cs rows p n → Passes cs (between rows p n false) words
      → (fault_in (built_rules cs) rows p ≡ []) × Accepted cs (rows_in (built_rules cs) rows p) words
  at_option : (rows : List Row) (c : Choice) (n : ℕ) → choice_named cs c.name ≡ Some c → (is_flag c) ≡ false → (n ≡ 1) ⊎ (n ≡ 2) → n ≡ place rows
      → Passes cs (waits c.name rows n) words → TakesValue cs rows c.name words

no_kinds : {X : Type 0} {k : ErrorKind} {ks : Kinds} → k ∷ ks ≡ [] → X
no_kinds e = cc

pub splits_apart : (cs : List Choice) (c : Choice) (v : Text) → choice_named cs c.name ≡ Some c → (is_flag c) ≡ false → is_plain v ≡ true
    → is_split_piece cs (apart c.name v) ≡ true
splits_apart cs c v e f p = rw (e, f) p

module _ (cs : List Choice) (t : IsTable cs) (x : Text) (xs : List Text) (ih : Reads cs xs) where
  module _ (rows : List Row) (p : Pending) (n : ℕ) (at : (n ≡ 1) ⊎ (n ≡ 2)) (i : InPlace cs rows p n) (h : Passes cs (between rows p n false) (x ∷ xs)) where
    abbrev Result : Type 0
    Result = (fault_in (built_rules cs) rows p ≡ []) × Accepted cs (rows_in (built_rules cs) rows p) (x ∷ xs)

    abbrev old : List Row
    old = rows_in (built_rules cs) rows p

    rest_dashes : bytes_eq x dashes ≡ true → Result
    rest_dashes e =
        let r = trailing_gives cs t xs rows p n at i (rest_passes cs _ x xs h _ (dashes_next (built_rules cs) rows p n x e)) in (
          r.0,
          record {
            reading = record { pieces = []; further = Some xs };
            spelled = ap (λ y. y ∷ xs) (same_text x dashes e);
            pieces = refl;
            fresh = r.1.fresh;
            after = r.1.after;
          },
        )

    rest_flag : (name : Text) (c : Choice) → bytes_eq x dashes ≡ false → long_of x ≡ Some (name, None) → choice_named cs name ≡ Some c
        → (is_flag c) ≡ true → Result
    rest_flag name c e l find fl =
        let f = found_by cs t name c find in
        let rule : arg_by_long (built_rules cs) name ≡ Some (chosen_of c) = long_found cs name ∙ ap (option_map chosen_of) find in
        let bare : takes_values (chosen_of c) ≡ false = rw fl refl in
        let turn = or_else-first _ _ (sym (flag_turn (built_rules cs) rows p n x name (chosen_of c) e l rule bare) ∙ turn_passes cs _ x xs h) in
        let settles : fault_in (built_rules cs) rows p ≡ [] = or_else-first _ _ turn in
        let once = subst (λ (b : Bool). use_fault false (chosen c.name c.is_required b) [] old ≡ []) fl (or_else-second _ _ turn) in
        let new = flag_new c.name c.is_required old once in
        let rows_are = ap (λ b. used (chosen c.name c.is_required b) [] old) fl ∙ flag_used c.name c.is_required old new in
        let rest = subst (λ (r : List Row). Passes cs (between r None n false) xs) rows_are
        (rest_passes cs _ x xs h _ (flag_next (built_rules cs) rows p n x name (chosen_of c) e l rule bare)) in
        let after = ih.at_rest (more old (given_flag c.name)) None n at
        (λ _. i settles ∙ sym (place_after old (given_flag c.name) (not_position cs t c f.itself))) rest in
        let split : is_split_piece cs (flag c.name) ≡ true = rw f.itself fl in
        let accepted = with_piece cs old (flag c.name) xs split new after.1 in
        (settles, subst (λ (y : Text). Accepted cs old (y ∷ xs)) (sym (flag_spelled x name l ∙ ap dashed (sym f.same))) accepted)

    rest_joined : (name v : Text) (c : Choice) → bytes_eq x dashes ≡ false → long_of x ≡ Some (name, Some v) → choice_named cs name ≡ Some c
        → (is_flag c) ≡ false → Result
    rest_joined name v c e l find fl =
        let f = found_by cs t name c find in
        let rule : arg_by_long (built_rules cs) name ≡ Some (chosen_of c) = long_found cs name ∙ ap (option_map chosen_of) find in
        let takes : takes_values (chosen_of c) ≡ true = rw fl refl in
        let turn = or_else-first _ _ (sym (joined_turn (built_rules cs) rows p n x name v (chosen_of c) e l rule takes) ∙ turn_passes cs _ x xs h) in
        let settles : fault_in (built_rules cs) rows p ≡ [] = or_else-first _ _ turn in
        let once = subst (λ (b : Bool). use_fault false (chosen c.name c.is_required b) (v ∷ []) old ≡ []) fl (or_else-second _ _ turn) in
        let new = option_new c.name v c.is_required old once in
        let rows_are = ap (λ b. used (chosen c.name c.is_required b) (v ∷ []) old) fl ∙ option_used c.name v c.is_required old new in
        let rest = subst (λ (r : List Row). Passes cs (between r None n false) xs) rows_are
        (rest_passes cs _ x xs h _ (joined_next (built_rules cs) rows p n x name v (chosen_of c) e l rule takes)) in
        let after = ih.at_rest (more old (option_given c.name v)) None n at
        (λ _. i settles ∙ sym (place_after old (option_given c.name v) (not_position cs t c f.itself))) rest in
        let split : is_split_piece cs (joined c.name v) ≡ true = rw (f.itself, fl) refl in
        let accepted = with_piece cs old (joined c.name v) xs split new after.1 in
        (settles, subst (λ (y : Text). Accepted cs old (y ∷ xs)) (sym (joined_spelled x name v l ∙ ap (λ m. dashed (m ++ 61 ∷ v)) (sym f.same))) accepted)

    rest_apart : (name : Text) (c : Choice) → bytes_eq x dashes ≡ false → long_of x ≡ Some (name, None) → choice_named cs name ≡ Some c
        → (is_flag c) ≡ false → Result
    rest_apart name c e l find fl =
        let f = found_by cs t name c find in
        let rule : arg_by_long (built_rules cs) name ≡ Some (chosen_of c) = long_found cs name ∙ ap (option_map chosen_of) find in
        let takes : takes_values (chosen_of c) ≡ true = rw fl refl in
        let settles : fault_in (built_rules cs) rows p ≡ [] =
        or_else-first _ _ (sym (apart_turn (built_rules cs) rows p n x name (chosen_of c) e l rule takes) ∙ turn_passes cs _ x xs h) in
        let id_is : (chosen_of c).id ≡ c.name = rw fl refl in
        let rest = subst (λ (m : Text). Passes cs (waits m old n) xs) id_is
        (rest_passes cs _ x xs h _ (apart_next (built_rules cs) rows p n x name (chosen_of c) e l rule takes)) in
        let v = ih.at_option old c n f.itself fl at (i settles) rest in
        let split = splits_apart cs c v.value f.itself fl v.is_plain in
        let accepted = with_piece cs old (apart c.name v.value) v.rest split v.new v.accepted in
        let words_are : x ∷ xs ≡ dashed c.name ∷ v.value ∷ v.rest = ap (λ y. y ∷ xs) (flag_spelled x name l ∙ ap dashed (sym f.same))
        ∙ ap (λ ws. dashed c.name ∷ ws) v.spelled in
        (settles, subst (λ (ws : List Text). Accepted cs old ws) (sym words_are) accepted)

    rest_long : (name : Text) (v : Option Text) → bytes_eq x dashes ≡ false → long_of x ≡ Some (name, v) → (o : Option Choice)
        → choice_named cs name ≡ o → Result
    rest_long name v e l None find =
        let rule = long_found cs name ∙ ap (option_map chosen_of) find in
        no_kinds (sym (unknown_turn (built_rules cs) rows p n x name v e l rule) ∙ turn_passes cs _ x xs h)
    rest_long name v e l (Some c) find = by v (is_flag c) refl l
      where
        by : (v : Option Text) (b : Bool) → (is_flag c) ≡ b → long_of x ≡ Some (name, v) → Result
        by None true fl l = rest_flag name c e l find fl
        by None false fl l = rest_apart name c e l find fl
        by (Some v) false fl l = rest_joined name v c e l find fl
        by (Some v) true fl l =
            let rule : arg_by_long (built_rules cs) name ≡ Some (chosen_of c) = long_found cs name ∙ ap (option_map chosen_of) find in
            let bare : takes_values (chosen_of c) ≡ false = rw fl refl in
            no_kinds (sym (valued_flag_turn (built_rules cs) rows p n x name v (chosen_of c) e l rule bare) ∙ turn_passes cs _ x xs h)

    rest_short : (flags : Text) → bytes_eq x dashes ≡ false → long_of x ≡ None → short_of x ≡ Some flags → HasFirstChar flags → Result
    rest_short flags e l s c =
        no_kinds (sym (short_turn (built_rules cs) rows p n x c.0 c.1 c.3.0 e l (s ∙ ap Some c.2) c.3.1 (short_found cs c.3.0)) ∙ turn_passes cs _ x xs h)

    rest_plain : IsSeenPlain x → Result
    rest_plain s = by at
      where
        by : (n ≡ 1) ⊎ (n ≡ 2) → Result
        by (inr two) =
            let h2 = subst (λ (m : ℕ). Passes cs (between rows p m false) (x ∷ xs)) two h in
            no_kinds (sym (stray_turn (built_rules cs) rows p x s.dashes s.long s.short (second_found cs)) ∙ turn_passes cs _ x xs h2)
        by (inl one) =
            let h1 = subst (λ (m : ℕ). Passes cs (between rows p m false) (x ∷ xs)) one h in
            let settles : fault_in (built_rules cs) rows p ≡ [] = sym (plain_turn (built_rules cs) rows p x s.dashes s.long s.short (first_found cs))
            ∙ turn_passes cs _ x xs h1 in
            let no_word : has_row position old ≡ false = place_first old (sym one ∙ i settles) in
            let rest = ih.at_rest old (Some (position, x ∷ [])) 2 (inr refl) (word_in_place cs t old x no_word)
            (rest_passes cs _ x xs h1 _ (plain_next (built_rules cs) rows p x s.dashes s.long s.short (first_found cs))) in
            let new = word_pending_rows cs t old x ∙ word_used x old no_word in
            let after = subst (λ (r : List Row). Accepted cs r xs) new rest.1 in
            (settles, with_piece cs old (plain x) xs (plain_from x s) no_word after)

  rest_step : IsUtf8 x → (rows : List Row) (p : Pending) (n : ℕ) → (n ≡ 1) ⊎ (n ≡ 2) → InPlace cs rows p n → Passes cs (between rows p n false) (x ∷ xs)
      → (fault_in (built_rules cs) rows p ≡ []) × Accepted cs (rows_in (built_rules cs) rows p) (x ∷ xs)
  rest_step u rows p n at i h = by (bytes_eq x dashes) refl (long_of x) refl (short_of x) refl
    where
      by : (b : Bool) → bytes_eq x dashes ≡ b → (o : Option (Text × Option Text)) → long_of x ≡ o → (f : Option Text) → short_of x ≡ f
          → (fault_in (built_rules cs) rows p ≡ []) × Accepted cs (rows_in (built_rules cs) rows p) (x ∷ xs)
      by true e o l f s = rest_dashes rows p n at i h e
      by false e (Some q) l f s = rest_long rows p n at i h q.0 q.1 e l (choice_named cs q.0) refl
      by false e None l (Some flags) s = rest_short rows p n at i h flags e l s (first_char x flags u s)
      by false e None l None s = rest_plain rows p n at i h (record { dashes = e; long = l; short = s })

  -- the option's value is missing
  starves : (rows : List Row) (c : Choice) (n : ℕ) → choice_named cs c.name ≡ Some c → (is_flag c) ≡ false → (n ≡ 1) ⊎ (n ≡ 2)
      → Passes cs (starved c.name rows n) xs → TakesValue cs rows c.name (x ∷ xs)
  starves rows c n e f at h = by xs at h
    where
      by : (ys : List Text) → (n ≡ 1) ⊎ (n ≡ 2) → Passes cs (starved c.name rows n) ys → TakesValue cs rows c.name (x ∷ xs)
      by [] at h = no_kinds (sym (option_empty cs c e f rows) ∙ h.settle)
      by (y ∷ ys) (inl one) h =
          let h1 = subst (λ (m : ℕ). Passes cs (starved c.name rows m) (y ∷ ys)) one h in
          no_kinds (sym (starved_turn (built_rules cs) rows c.name y (first_found cs) ∙ option_empty cs c e f rows) ∙ turn_passes cs _ y ys h1)
      by (y ∷ ys) (inr two) h =
          let h2 = subst (λ (m : ℕ). Passes cs (starved c.name rows m) (y ∷ ys)) two h in
          no_kinds (sym (starved_stray (built_rules cs) rows c.name y (second_found cs)) ∙ turn_passes cs _ y ys h2)

  module _ (rows : List Row) (c : Choice) (n : ℕ) (named : choice_named cs c.name ≡ Some c) (no_flag : (is_flag c) ≡ false) (at : (n ≡ 1) ⊎ (n ≡ 2))
      (i : n ≡ place rows)
      (h : Passes cs (waits c.name rows n) (x ∷ xs)) where
    option_plain : IsSeenPlain x → TakesValue cs rows c.name (x ∷ xs)
    option_plain s =
        let id_is : (chosen_of c).id ≡ c.name = rw no_flag refl in
        let most : most_values (chosen_of c) ≡ 1 = rw no_flag refl in
        let rest = rest_passes cs _ x xs h _
        (waits_plain_next (built_rules cs) rows c.name n x (chosen_of c) s.dashes s.long s.short (id_found cs c.name c named)
        (ap (bytes_eq c.name) id_is ∙ same_as_itself c.name) most) in
        let g = option_given c.name x in
        let new_if = λ (settles : fault_in (built_rules cs) rows (Some (c.name, x ∷ [])) ≡ []). option_new c.name x c.is_required rows
        (sym (option_pending cs c named no_flag rows x) ∙ settles) in
        let rows_if = λ (new : has_row c.name rows ≡ false). option_pending_rows cs c named no_flag rows x ∙ option_used c.name x c.is_required rows new in
        let after = ih.at_rest rows (Some (c.name, x ∷ [])) n at
        (λ settles. i ∙ sym (ap place (rows_if (new_if settles)) ∙ place_after rows g (not_position cs t c named))) rest in
        record {
          value = x;
          rest = xs;
          spelled = refl;
          is_plain = plain_from x s;
          new = new_if after.0;
          accepted = subst (λ (r : List Row). Accepted cs r xs) (rows_if (new_if after.0)) after.1;
        }

  option_step : IsUtf8 x → (rows : List Row) (c : Choice) (n : ℕ) → choice_named cs c.name ≡ Some c → (is_flag c) ≡ false → (n ≡ 1) ⊎ (n ≡ 2) → n ≡ place rows
      → Passes cs (waits c.name rows n) (x ∷ xs) → TakesValue cs rows c.name (x ∷ xs)
  option_step u rows c n named no_flag at i h = by (bytes_eq x dashes) refl (long_of x) refl (short_of x) refl
    where
      by_short : (flags : Text) → bytes_eq x dashes ≡ false → long_of x ≡ None → short_of x ≡ Some flags → HasFirstChar flags
          → TakesValue cs rows c.name (x ∷ xs)
      by_short flags e l s f =
          no_kinds (sym (waits_short_turn (built_rules cs) rows c.name n x f.0 f.1 f.3.0 e l (s ∙ ap Some f.2) f.3.1 (short_found cs f.3.0))
          ∙ turn_passes cs _ x xs h)

      by : (b : Bool) → bytes_eq x dashes ≡ b → (o : Option (Text × Option Text)) → long_of x ≡ o → (f : Option Text) → short_of x ≡ f
          → TakesValue cs rows c.name (x ∷ xs)
      by true e o l f s = starves rows c n named no_flag at (rest_passes cs _ x xs h _ (waits_dashes_next (built_rules cs) rows c.name n x e))
      by false e (Some q) l f s =
          absurd (waits_long_turn (built_rules cs) rows c.name n x q.0 q.1 _ _ e l (option_empty cs c named no_flag rows) (turn_passes cs _ x xs h))
      by false e None l (Some flags) s = by_short flags e l s (first_char x flags u s)
      by false e None l None s = option_plain rows c n named no_flag at i h (record { dashes = e; long = l; short = s })

-- each of the words is text
abbrev pub AreTexts : List Text → Type 0
AreTexts [] = Unit {0}
AreTexts (x ∷ xs) = IsUtf8 x × AreTexts xs

reads : (cs : List Choice) → IsTable cs → (words : List Text) → AreTexts words → Reads cs words
reads cs t [] u = record {
  at_rest = λ rows p n at i h. (
    h.settle,
    record {
      reading = record { pieces = []; further = None };
      spelled = refl;
      pieces = refl;
      fresh = refl;
      after = h.after;
    },
  );
  at_option = λ rows c n named no_flag at i h. no_kinds (sym (option_empty cs c named no_flag rows) ∙ h.settle);
}
reads cs t (x ∷ xs) u =
    let ih = reads cs t xs u.1 in
    record { at_rest = rest_step cs t x xs ih u.0; at_option = option_step cs t x xs ih u.0 }

-- words on which the walk passes from its start
pub accepted : (cs : List Choice) → IsTable cs → (words : List Text) → AreTexts words → Passes cs (between [] None 1 false) words → Accepted cs [] words
accepted cs t words u h =
    let r = (reads cs t words u).at_rest [] None 1 (inl refl) (λ _. refl) h in
    r.1
