-- What `clap`'s contract says of the words, in the terms of the pieces.
use Rattle.std.proofs.Common.{◌≡◌, ◌∙◌, refl, sym, ap, ap₂, subst, Bool, true, false, cond, List, [], ◌∷◌, map, find, fold, Option, Some, None, option_map}
use Rattle.std.proofs.Common.{String, string_bytes, inl, inr}
use Rattle.std.specs.Prelude.{option_and_then}
use Rattle.std.specs.Option.{option_map_or}
use Rattle.std.specs.Str.{bytes_eq}
use Rattle.std.proofs.lemmas.Bool.{and_parts, and_from}
use Rattle.clap.specs.Facts.{Entry}
use Rattle.clap.specs.Matches.{found_of}
use Rattle.clap.specs.Walk.{Row, nothing_held, row_of as row_of_entry, rows_of, with_default}
use Rattle.clap.specs.Simple.{App, HasMatchesOf, matches_of}
use Rattle.clap.specs.Faults.{fault_of, is_simple_and_free, level_fault}
use Rattle.clap.specs.Kinds.{HasKind, IsAmong, Kinds}
use Rattle.clap.specs.Values.{kind_of}
use Rattle.clap.specs.declared.error.Error.{Error}
use Rattle.std.proofs.lemmas.Str.{IsUtf8-string_bytes}
use Rattle.verb_table.specs.Table.{Choice, Text}
use Rattle.clap.specs.declared.error.kind.ErrorKind.TheVariants as kind
use Rattle.clap.specs.declared.parser.matches.ArgMatches.{ArgMatches}
use Rattle.clap.specs.declared.parser.matches.Found.{Found}
use Rattle.clap.proofs.WalkLemmas.{find_row, first_value-rows}
use Rattle.sil_words.specs.Language.{Reading, words_of}
use Rattle.sil_words.specs.Splitting.{givens_of}
use Rattle.sil_words.specs.Splitting.{IsSplit, Tells, TellsOf, command_of, is_from_words, source_of}
use Rattle.sil_words.proofs.Turns.{between, shape, or_else-first, or_else-second, or_else-both}
use Rattle.sil_words.proofs.Rules.{built_rules, fault_is, matches_are, simple_command}
use Rattle.sil_words.proofs.Rows.{row_for}
use Rattle.sil_words.proofs.Passing.{IsTable, Passes, WalksTo, after_fault}
use Rattle.sil_words.proofs.Splits.{AreTexts, accepted}
use Rattle.sil_words.proofs.Walks.{walks}
use Rattle.sil_words.proofs.Givens.{after_is, ends_value, extended_is, fresh_is, told_in}

passes_from : (cs : List Choice) (words : List Text) → level_fault (shape (built_rules cs)) [] nothing_held words false [] ≡ []
    → Passes cs (between [] None 1 false) words
passes_from cs words h =
    let rest = or_else-second _ _ h in
    record { walk = or_else-first _ _ h; settle = or_else-first _ _ rest; after = or_else-second _ _ rest }

complete_from : (b : Bool) → cond {A = Kinds} b [] (kind.MissingRequiredArgument ∷ []) ≡ [] → b ≡ true
complete_from true h = refl
complete_from false h = cc

-- words that the command takes are split
pub taken_split : (cs : List Choice) → IsTable cs → (words : List Text) → AreTexts words → fault_of (command_of cs) words ≡ []
    → (r : Reading) × IsSplit cs words r
taken_split cs t words u h =
    let a = accepted cs t words u (passes_from cs words (sym (fault_is cs words) ∙ h)) in
    let gs = givens_of a.reading in
    let complete = and_parts _ _ (complete_from _ (sym (after_is cs gs) ∙ ap (after_fault cs) (sym (extended_is [] gs)) ∙ a.after)) in (
      a.reading,
      record {
        spelled = a.spelled;
        pieces = a.pieces;
        once = sym (fresh_is gs) ∙ a.fresh;
        required = complete.0;
        positional = complete.1;
      },
    )

pub walks_split : (cs : List Choice) → IsTable cs → (words : List Text) (r : Reading) → IsSplit cs words r
    → WalksTo cs (between [] None 1 false) words (map row_for (givens_of r))
walks_split cs t words r s =
    let gs = givens_of r in
    subst (λ (ws : List Text). WalksTo cs (between [] None 1 false) ws (map row_for gs)) (sym s.spelled)
    (subst (λ (rows : List Row). WalksTo cs (between [] None 1 false) (words_of r) rows) (extended_is [] gs) (walks cs t r s.pieces (fresh_is gs ∙ s.once)))

-- words that are split are taken
pub split_taken : (cs : List Choice) → IsTable cs → (words : List Text) (r : Reading) → IsSplit cs words r → fault_of (command_of cs) words ≡ []
split_taken cs t words r s =
    let w = walks_split cs t words r s in
    let gs = givens_of r in
    let after = ap (after_fault cs) w.ends ∙ after_is cs gs
    ∙ ap (λ b. cond {A = Kinds} b [] (kind.MissingRequiredArgument ∷ [])) (and_from _ _ s.required s.positional) in
    fault_is cs words ∙ or_else-both _ _ w.walk (or_else-both _ _ w.settle after)

matches_split : (cs : List Choice) → IsTable cs → (words : List Text) (r : Reading) → IsSplit cs words r
    → matches_of (command_of cs) words ≡ fold with_default (map row_for (givens_of r)) (built_rules cs)
matches_split cs t words r s = matches_are cs words ∙ ap (λ rows. fold with_default rows (built_rules cs)) (walks_split cs t words r s).ends

source_rows : (f : Found) (name : Text)
    → is_from_words (source_of f name) ≡ option_map_or (λ r. is_from_words r.source) (find (λ r. bytes_eq r.id name) (rows_of f)) false
source_rows f name = by (find (λ e. bytes_eq e.0.now name) f.entries.items)
    ∙ ap (λ o. option_map_or (λ r. is_from_words r.source) o false) (sym (find_row f.entries.items name))
  where
    by : (o : Option Entry)
        → is_from_words (option_and_then (λ a. a.source) (option_map (λ e. e.1) o)) ≡ option_map_or (λ r. is_from_words r.source)
        (option_map row_of_entry o) false
    by None = refl
    by (Some e) = refl

-- and their matches tell what is given
pub tells_split : (cs : List Choice) → IsTable cs → (words : List Text) (m : ArgMatches) → HasMatchesOf (command_of cs) words m → (r : Reading)
    → IsSplit cs words r → Tells m (givens_of r)
tells_split cs t words m h r s name =
    let simple = and_parts _ _ (simple_command cs) in
    let rows = (h simple.0).0 ∙ matches_split cs t words r s in
    ap₂ (λ b v. cond b v None) (source_rows (found_of m) name) (first_value-rows (found_of m) name) ∙ ap (told_in name) rows
    ∙ ends_value cs (givens_of r) name

-- ---- the program's call

are_texts : {Z : Type 0} (words : List (String Z)) → AreTexts (map string_bytes words)
are_texts [] = tt
are_texts (w ∷ words) = (IsUtf8-string_bytes w, are_texts words)

pub call_ok : {Z : Type 0} (cs : List Choice) → IsTable cs → (words : List (String Z)) (app : App) (m : ArgMatches) → app ≡ command_of cs
    → (is_simple_and_free app ≡ true → fault_of app (map string_bytes words) ≡ []) → HasMatchesOf app (map string_bytes words) m
    → TellsOf cs (map string_bytes words) m
call_ok cs t words app m e kinds has =
    let ws = map string_bytes words in
    let no_fault = subst (λ (a : App). is_simple_and_free a ≡ true → fault_of a ws ≡ []) e kinds in
    let matches = subst (λ (a : App). HasMatchesOf a ws m) e has in
    (taken_split cs t ws (are_texts words) (no_fault (simple_command cs)), tells_split cs t ws m matches)

pub call_refused : {Z : Type 0} (cs : List Choice) → IsTable cs → (words : List (String Z)) (app : App) (err : Error) → app ≡ command_of cs
    → (is_simple_and_free app ≡ true → HasKind (fault_of app (map string_bytes words)) err) → (kind_of err ≡ kind.OutOfMemory → ⊥)
    → (r : Reading) → IsSplit cs (map string_bytes words) r → ⊥
call_refused cs t words app err e kinds memory r s =
    let ws = map string_bytes words in
    let has = subst (λ (a : App). is_simple_and_free a ≡ true → HasKind (fault_of a ws) err) e kinds (simple_command cs) in
    elim has [
      | inl m ↦ memory m
      | inr k ↦ subst (λ (ks : Kinds). IsAmong (kind_of err) ks) (split_taken cs t ws r s) k
    ]
