-- Words that are split into pieces pass a walk of `clap`, which ends with what they give.
use Rattle.std.proofs.Common.{◌≡◌, ◌∙◌, refl, sym, ap, subst, ℕ, Bool, true, false, not, cond, List, [], ◌∷◌, ◌++◌, map, Option, Some, None, option_map}
use Rattle.std.specs.List.{list_all}
use Rattle.std.specs.Option.{option_map_or}
use Rattle.std.specs.Str.{bytes_eq}
use Rattle.std.proofs.lemmas.Bool.{and_parts, not-true}
use Rattle.clap.specs.Walk.{Row, arg_by_long, has_row, takes_values, most_values, used}
use Rattle.clap.specs.Faults.{use_fault, walk_fault}
use Rattle.verb_table.specs.Table.{Choice, Text, is_flag}
use Rattle.sil_words.specs.Language.{Given, Piece, flag, joined, apart, plain, Reading, choice_named, dashed, dashes, further_words, given_flag}
use Rattle.sil_words.specs.Language.{is_flag_of, is_plain, words_of, words_of_pieces}
use Rattle.sil_words.specs.Splitting.{given_by, given_further, givens_of, position}
use Rattle.sil_words.specs.Splitting.{is_option_of, is_split_piece}
use Rattle.sil_words.proofs.Turns.{Pending, between, waits, fault_in, rows_in, or_else-both, dashes_turn, dashes_next, flag_turn, flag_next}
use Rattle.sil_words.proofs.Turns.{joined_turn, joined_next, apart_turn, apart_next, plain_turn, plain_next, waits_plain_turn, waits_plain_next}
use Rattle.sil_words.proofs.Rules.{built_rules, chosen, chosen_of, id_found, long_found, first_found}
use Rattle.sil_words.proofs.Lexing.{is_name, flag_seen, joined_seen, dashed_is_not_dashes, joined_is_not_dashes, seen_plain}
use Rattle.sil_words.proofs.Rows.{more, flag_used, option_used, word_used, flag_passes, option_passes, word_passes}
use Rattle.sil_words.proofs.Passing.{IsTable, IsFound, WalksTo, a_word, extended, fresh, place, found_by, same_as_itself, not_position}
use Rattle.sil_words.proofs.Passing.{option_pending, option_pending_rows, word_pending, word_pending_rows, walks_on, place_after, word_in_place}
use Rattle.sil_words.proofs.Passing.{trailing_walks}

-- the choice of a flag, and of an option
record HasChoice (cs : List Choice) (name : Text) (flagged : Bool) : Type 0 where
  choice : Choice
  named : choice_named cs name ≡ Some choice
  kind : (is_flag choice) ≡ flagged

flag_choice : (cs : List Choice) (name : Text) → is_flag_of cs name ≡ true → HasChoice cs name true
flag_choice cs name h = by (choice_named cs name) refl h
  where
    by : (o : Option Choice) → choice_named cs name ≡ o → option_map_or (λ c. (is_flag c)) o false ≡ true → HasChoice cs name true
    by None e h = cc
    by (Some c) e h = record { choice = c; named = e; kind = h }

option_choice : (cs : List Choice) (name : Text) → is_option_of cs name ≡ true → HasChoice cs name false
option_choice cs name h = by (choice_named cs name) refl h
  where
    by : (o : Option Choice) → choice_named cs name ≡ o → option_map_or (λ c. not (is_flag c)) o false ≡ true → HasChoice cs name false
    by None e h = cc
    by (Some c) e h = record { choice = c; named = e; kind = not-true _ h }

-- a name of a choice, with all that is known of it
record IsKnown (cs : List Choice) (name : Text) (c : Choice) (flagged : Bool) (rows : List Row) : Type 0 where
  found : IsFound cs name c
  rule : arg_by_long (built_rules cs) name ≡ Some (chosen_of c)
  kind : (is_flag c) ≡ flagged
  named : is_name name ≡ true
  no_position : bytes_eq name position ≡ false
  new : has_row c.name rows ≡ false

known : (cs : List Choice) → IsTable cs → (name : Text) (b : Bool) (rows : List Row) → (h : HasChoice cs name b) → has_row name rows ≡ false
    → IsKnown cs name h.choice b rows
known cs t name b rows h new =
    let f = found_by cs t name h.choice h.named in
    record {
      found = f;
      rule = long_found cs name ∙ ap (option_map chosen_of) h.named;
      kind = h.kind;
      named = ap is_name (sym f.same) ∙ f.spelled;
      no_position = ap (λ m. bytes_eq m position) (sym f.same) ∙ not_position cs t h.choice f.itself;
      new = ap (λ m. has_row m rows) f.same ∙ new;
    }

abbrev option_given : Text → Text → Given
option_given name value = record { name = name; value = value }

module _ (cs : List Choice) (t : IsTable cs) (rows : List Row) (p : Pending) (n : ℕ) (settles : fault_in (built_rules cs) rows p ≡ [])
    (i : n ≡ place (rows_in (built_rules cs) rows p)) where
  abbrev old : List Row
  old = rows_in (built_rules cs) rows p

  flag_walks : (name : Text) (rest : List Text) (ends : List Row) → is_flag_of cs name ≡ true → has_row name old ≡ false
      → (n ≡ place (more old (given_flag name)) → WalksTo cs (between (more old (given_flag name)) None n false) rest ends)
      → WalksTo cs (between rows p n false) (dashed name ∷ rest) ends
  flag_walks name rest ends h new next =
      let has = flag_choice cs name h in
      let c = has.choice in
      let k = known cs t name true old has new in
      let bare : takes_values (chosen_of c) ≡ false = rw k.kind refl in
      let passes = ap (λ b. use_fault false (chosen c.name c.is_required b) [] old) k.kind ∙ flag_passes c.name c.is_required old k.new in
      let rows_are = ap (λ b. used (chosen c.name c.is_required b) [] old) k.kind ∙ flag_used c.name c.is_required old k.new
      ∙ ap (λ m. more old (given_flag m)) k.found.same in
      walks_on cs _ (dashed name) rest _ ends
      (flag_turn (built_rules cs) rows p n (dashed name) name (chosen_of c) (dashed_is_not_dashes name k.named) (flag_seen name k.named) k.rule bare
      ∙ or_else-both _ _ (or_else-both _ _ settles passes) refl)
      (flag_next (built_rules cs) rows p n (dashed name) name (chosen_of c) (dashed_is_not_dashes name k.named) (flag_seen name k.named) k.rule bare
      ∙ ap (λ r. between r None n false) rows_are)
      (next (i ∙ sym (place_after old (given_flag name) k.no_position)))

  joined_walks : (name v : Text) (rest : List Text) (ends : List Row) → is_option_of cs name ≡ true → has_row name old ≡ false
      → (n ≡ place (more old (option_given name v)) → WalksTo cs (between (more old (option_given name v)) None n false) rest ends)
      → WalksTo cs (between rows p n false) (dashed (name ++ 61 ∷ v) ∷ rest) ends
  joined_walks name v rest ends h new next =
      let has = option_choice cs name h in
      let c = has.choice in
      let k = known cs t name false old has new in
      let takes : takes_values (chosen_of c) ≡ true = rw k.kind refl in
      let passes = ap (λ b. use_fault false (chosen c.name c.is_required b) (v ∷ []) old) k.kind ∙ option_passes c.name v c.is_required old k.new in
      let rows_are = ap (λ b. used (chosen c.name c.is_required b) (v ∷ []) old) k.kind ∙ option_used c.name v c.is_required old k.new
      ∙ ap (λ m. more old (option_given m v)) k.found.same in
      walks_on cs _ (dashed (name ++ 61 ∷ v)) rest _ ends
      (joined_turn (built_rules cs) rows p n (dashed (name ++ 61 ∷ v)) name v (chosen_of c) (joined_is_not_dashes name v k.named)
      (joined_seen name v k.named) k.rule takes
      ∙ or_else-both _ _ (or_else-both _ _ settles passes) refl)
      (joined_next (built_rules cs) rows p n (dashed (name ++ 61 ∷ v)) name v (chosen_of c) (joined_is_not_dashes name v k.named)
      (joined_seen name v k.named) k.rule takes
      ∙ ap (λ r. between r None n false) rows_are)
      (next (i ∙ sym (place_after old (option_given name v) k.no_position)))

  apart_walks : (name v : Text) (rest : List Text) (gs : List Given) → is_option_of cs name ≡ true → is_plain v ≡ true → has_row name old ≡ false
      → fresh (more old (option_given name v)) gs ≡ true
      → ((q : Pending) → fault_in (built_rules cs) old q ≡ [] → n ≡ place (rows_in (built_rules cs) old q) → fresh (rows_in (built_rules cs) old q) gs ≡ true
      → WalksTo cs (between old q n false) rest (extended (rows_in (built_rules cs) old q) gs))
      → WalksTo cs (between rows p n false) (dashed name ∷ v ∷ rest) (extended (more old (option_given name v)) gs)
  apart_walks name v rest gs h pl new fr next =
      let has = option_choice cs name h in
      let c = has.choice in
      let k = known cs t name false old has new in
      let takes : takes_values (chosen_of c) ≡ true = rw k.kind refl in
      let id_is : (chosen_of c).id ≡ c.name = rw k.kind refl in
      let most : most_values (chosen_of c) ≡ 1 = rw k.kind refl in
      let s = seen_plain v pl in
      let rows_are = option_pending_rows cs c k.found.itself k.kind old v ∙ option_used c.name v c.is_required old k.new
      ∙ ap (λ m. more old (option_given m v)) k.found.same in
      let last = next (Some (c.name, v ∷ [])) (option_pending cs c k.found.itself k.kind old v ∙ option_passes c.name v c.is_required old k.new)
      (i ∙ sym (ap place rows_are ∙ place_after old (option_given name v) k.no_position)) (ap (λ r. fresh r gs) rows_are ∙ fr) in
      let last_rows = subst (λ (r : List Row). WalksTo cs (between old (Some (c.name, v ∷ [])) n false) rest (extended r gs)) rows_are last in
      walks_on cs _ (dashed name) (v ∷ rest) _ _
      (apart_turn (built_rules cs) rows p n (dashed name) name (chosen_of c) (dashed_is_not_dashes name k.named) (flag_seen name k.named) k.rule takes
      ∙ or_else-both _ _ settles refl)
      (apart_next (built_rules cs) rows p n (dashed name) name (chosen_of c) (dashed_is_not_dashes name k.named) (flag_seen name k.named) k.rule takes
      ∙ ap (λ m. waits m old n) id_is)
      (walks_on cs _ v rest _ _ (waits_plain_turn (built_rules cs) old c.name n v s.dashes s.long s.short)
      (waits_plain_next (built_rules cs) old c.name n v (chosen_of c) s.dashes s.long s.short (id_found cs c.name c k.found.itself)
      (ap (bytes_eq c.name) id_is ∙ same_as_itself c.name) most) last_rows)

  plain_walks : (x : Text) (rest : List Text) (gs : List Given) → is_plain x ≡ true → has_row position old ≡ false → fresh (more old (a_word x)) gs ≡ true
      → ((q : Pending) → fault_in (built_rules cs) old q ≡ [] → 2 ≡ place (rows_in (built_rules cs) old q) → fresh (rows_in (built_rules cs) old q) gs ≡ true
      → WalksTo cs (between old q 2 false) rest (extended (rows_in (built_rules cs) old q) gs))
      → WalksTo cs (between rows p n false) (x ∷ rest) (extended (more old (a_word x)) gs)
  plain_walks x rest gs pl new fr next =
      let one : n ≡ 1 = i ∙ ap (λ b. cond b 2 1) new in
      let s = seen_plain x pl in
      let rows_are = word_pending_rows cs t old x ∙ word_used x old new in
      let settled_word = word_pending cs t old x ∙ word_passes x old new in
      let last = next (Some (position, x ∷ [])) settled_word (word_in_place cs t old x new settled_word) (ap (λ r. fresh r gs) rows_are ∙ fr) in
      let last_rows = subst (λ (r : List Row). WalksTo cs (between old (Some (position, x ∷ [])) 2 false) rest (extended r gs)) rows_are last in
      subst (λ (m : ℕ). WalksTo cs (between rows p m false) (x ∷ rest) (extended (more old (a_word x)) gs)) (sym one)
      (walks_on cs _ x rest _ _ (plain_turn (built_rules cs) rows p x s.dashes s.long s.short (first_found cs) ∙ settles)
      (plain_next (built_rules cs) rows p x s.dashes s.long s.short (first_found cs)) last_rows)

pieces_walk : (cs : List Choice) → IsTable cs → (pieces : List Piece) (f : Option (List Text)) (rows : List Row) (p : Pending) (n : ℕ)
    → fault_in (built_rules cs) rows p ≡ []
    → n ≡ place (rows_in (built_rules cs) rows p) → list_all (is_split_piece cs) pieces ≡ true
    → fresh (rows_in (built_rules cs) rows p) (map given_by pieces ++ given_further f) ≡ true
    → WalksTo cs (between rows p n false) (words_of_pieces pieces (further_words f))
    (extended (rows_in (built_rules cs) rows p) (map given_by pieces ++ given_further f))
unfolding walk_fault
pieces_walk cs t [] None rows p n settles i split fr = record { walk = refl; settle = settles; ends = refl }
pieces_walk cs t [] (Some words) rows p n settles i split fr =
    walks_on cs _ dashes words _ _ (dashes_turn (built_rules cs) rows p n dashes refl) (dashes_next (built_rules cs) rows p n dashes refl)
    (trailing_walks cs t words rows p n settles i fr)
pieces_walk cs t (flag name ∷ ps) f rows p n settles i split fr =
    let s = and_parts _ _ split in
    let e = and_parts _ _ fr in
    flag_walks cs t rows p n settles i name (words_of_pieces ps (further_words f)) _ s.0 (not-true _ e.0)
    (λ j. pieces_walk cs t ps f (more (rows_in (built_rules cs) rows p) (given_flag name)) None n refl j s.1 e.1)
pieces_walk cs t (joined name v ∷ ps) f rows p n settles i split fr =
    let s = and_parts _ _ split in
    let e = and_parts _ _ fr in
    joined_walks cs t rows p n settles i name v (words_of_pieces ps (further_words f)) _ s.0 (not-true _ e.0)
    (λ j. pieces_walk cs t ps f (more (rows_in (built_rules cs) rows p) (option_given name v)) None n refl j s.1 e.1)
pieces_walk cs t (apart name v ∷ ps) f rows p n settles i split fr =
    let s = and_parts _ _ split in
    let o = and_parts (is_option_of cs name) (is_plain v) s.0 in
    let e = and_parts _ _ fr in
    apart_walks cs t rows p n settles i name v (words_of_pieces ps (further_words f)) (map given_by ps ++ given_further f) o.0 o.1 (not-true _ e.0) e.1
    (λ q a b d. pieces_walk cs t ps f (rows_in (built_rules cs) rows p) q n a b s.1 d)
pieces_walk cs t (plain x ∷ ps) f rows p n settles i split fr =
    let s = and_parts _ _ split in
    let e = and_parts _ _ fr in
    plain_walks cs t rows p n settles i x (words_of_pieces ps (further_words f)) (map given_by ps ++ given_further f) s.0 (not-true _ e.0) e.1
    (λ q a b d. pieces_walk cs t ps f (rows_in (built_rules cs) rows p) q 2 a b s.1 d)

-- words that are split, from the start
pub walks : (cs : List Choice) → IsTable cs → (r : Reading) → list_all (is_split_piece cs) r.pieces ≡ true → fresh [] (givens_of r) ≡ true
    → WalksTo cs (between [] None 1 false) (words_of r) (extended [] (givens_of r))
walks cs t r split fr = pieces_walk cs t r.pieces r.further [] None 1 refl refl split fr
