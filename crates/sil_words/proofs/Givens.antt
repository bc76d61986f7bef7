-- The rows at the end of a parse tell what was given, and the checks after the walk are that what is required was given.
use Rattle.std.proofs.Common.{◌≡◌, ◌∙◌, refl, sym, ap, ap₂, Bool, true, false, not, cond, ◌&&◌, ◌||◌, List, [], ◌∷◌, ◌++◌, map, find, fold, Option, Some}
use Rattle.std.proofs.Common.{None, option_map, codes, slice_get, append_assoc, append-nil}
use Rattle.std.specs.Prelude.{option_and_then}
use Rattle.std.specs.List.{list_all, list_any}
use Rattle.std.specs.Option.{option_map_or}
use Rattle.std.specs.Str.{bytes_eq}
use Rattle.std.proofs.lemmas.Slice.Eq.{bytes_eq-Decides}
use Rattle.clap.specs.Facts.{explicit_source}
use Rattle.clap.specs.Walk.{Row, Rule, first_of, has_row, more_values, with_default}
use Rattle.clap.specs.Takes as takes
use Rattle.clap.specs.Faults.{default_fault, defaults_fault}
use Rattle.clap.specs.Kinds.{Kinds, or_else}
use Rattle.clap.specs.declared.builder.value_parser.Reading.TheVariants.{AsWritten}
use Rattle.clap.specs.declared.error.kind.ErrorKind.TheVariants as kind
use Rattle.clap.specs.declared.parser.matches.ValueSource.TheVariants.{DefaultValue}
use Rattle.verb_table.specs.Table.{Choice, Text, is_flag}
use Rattle.sil_words.specs.Language.{Given, is_given, is_once, value_of}
use Rattle.sil_words.specs.Splitting.{position}
use Rattle.sil_words.specs.Splitting.{is_from_words}
use Rattle.sil_words.proofs.Rules.{built_rules, chosen, chosen_of}
use Rattle.sil_words.proofs.Rows.{at_row_none, has_row_more, more, row_for}
use Rattle.sil_words.proofs.Passing.{after_fault, extended, fresh}

-- ---- the rows of what was given

pub extended_is : (rows : List Row) (gs : List Given) → extended rows gs ≡ rows ++ map row_for gs
extended_is rows [] = sym (append-nil rows)
extended_is rows (g ∷ gs) = extended_is (more rows g) gs ∙ append_assoc rows (row_for g ∷ []) (map row_for gs)

-- a test of the first row of a name
abbrev first_row : (Row → Bool) → Text → List Row → Bool
first_row test name rows = option_map_or test (find (λ r. bytes_eq r.id name) rows) false

given_rows : (test : Row → Bool) → ((g : Given) → test (row_for g) ≡ true) → (name : Text) (gs : List Given)
    → first_row test name (map row_for gs) ≡ is_given gs name
given_rows test each name [] = refl
given_rows test each name (g ∷ gs) = by (bytes_eq g.name name) (given_rows test each name gs)
  where
    by : (b : Bool) → first_row test name (map row_for gs) ≡ is_given gs name
        → option_map_or test (cond b (Some (row_for g)) (find (λ r. bytes_eq r.id name) (map row_for gs))) false ≡ (b || is_given gs name)
    by true e = each g
    by false e = e

-- the value that stands in the words under a name
abbrev pub told_in : Text → List Row → Option Text
told_in name rows = cond (first_row (λ r. is_from_words r.source) name rows) (first_of name rows) None

value_rows : (name : Text) (gs : List Given) → told_in name (map row_for gs) ≡ value_of gs name
value_rows name [] = refl
value_rows name (g ∷ gs) = by (bytes_eq g.name name) (value_rows name gs)
  where
    by : (b : Bool) → told_in name (map row_for gs) ≡ value_of gs name
        → (let found = cond b (Some (row_for g)) (find (λ r. bytes_eq r.id name) (map row_for gs)) in
        cond (option_map_or (λ r. is_from_words r.source) found false) (option_and_then (λ r. slice_get r.values 0) found) None)
        ≡ option_map (λ h. h.value) (cond b (Some g) (find (λ h. bytes_eq h.name name) gs))
    by true e = refl
    by false e = e

-- ---- nothing twice

bytes_eq_sym : (a b : Text) → bytes_eq a b ≡ bytes_eq b a
bytes_eq_sym a b = by (bytes_eq a b) refl (bytes_eq b a) refl
  where
    by : (s : Bool) → bytes_eq a b ≡ s → (t : Bool) → bytes_eq b a ≡ t → s ≡ t
    by true e true f = refl
    by false e false f = refl
    by true e false f =
        let bad : bytes_eq b a ≡ true = (bytes_eq-Decides b a).1 (sym ((bytes_eq-Decides a b).0 e)) in
        cc
    by false e true f =
        let bad : bytes_eq a b ≡ true = (bytes_eq-Decides a b).1 (sym ((bytes_eq-Decides b a).0 f)) in
        cc

all_new : List Row → List Given → Bool
all_new rows gs = list_all (λ g. not (has_row g.name rows)) gs

all_new_more : (rows : List Row) (g : Given) (gs : List Given) → all_new (more rows g) gs ≡ (all_new rows gs && not (is_given gs g.name))
unfolding all_new
all_new_more rows g [] = refl
all_new_more rows g (h ∷ gs) =
    ap₂ (λ x y. not x && y) (has_row_more h.name rows g ∙ ap (λ b. has_row h.name rows || b) (bytes_eq_sym g.name h.name)) (all_new_more rows g gs)
    ∙ by (has_row h.name rows) (bytes_eq h.name g.name) (all_new rows gs) (is_given gs g.name)
  where
    by : (a b c d : Bool) → (not (a || b) && (c && not d)) ≡ ((not a && c) && not (b || d))
    by true b c d = refl
    by false true true d = refl
    by false true false d = refl
    by false false c d = refl

fresh_are : (rows : List Row) (gs : List Given) → fresh rows gs ≡ (all_new rows gs && is_once gs)
unfolding all_new
fresh_are rows [] = refl
fresh_are rows (g ∷ gs) =
    ap (λ b. not (has_row g.name rows) && b) (fresh_are (more rows g) gs ∙ ap (λ b. b && is_once gs) (all_new_more rows g gs))
    ∙ by (has_row g.name rows) (all_new rows gs) (is_given gs g.name) (is_once gs)
  where
    by : (a b c d : Bool) → (not a && ((b && not c) && d)) ≡ ((not a && b) && (not c && d))
    by true b c d = refl
    by false true c d = refl
    by false false c d = refl

all_new_first : (gs : List Given) → all_new [] gs ≡ true
unfolding all_new
all_new_first [] = refl
all_new_first (g ∷ gs) = all_new_first gs

pub fresh_is : (gs : List Given) → fresh [] gs ≡ is_once gs
fresh_is gs = fresh_are [] gs ∙ ap (λ b. b && is_once gs) (all_new_first gs)

-- ---- defaults

abbrev default_row : Text → Row
default_row name = record { id = name; values = codes "false" ∷ []; count = None; source = Some DefaultValue; reading = AsWritten }

default_added : (name : Text) (r : Bool) (rows : List Row) → has_row name rows ≡ false → with_default rows (chosen name r true) ≡ rows ++ default_row name ∷ []
default_added name r rows h = rw h (at_row_none name (more_values DefaultValue (codes "false" ∷ [])) (default_row name ∷ []) rows h)

default_kept : (name : Text) (r : Bool) (rows : List Row) → has_row name rows ≡ true → with_default rows (chosen name r true) ≡ rows
default_kept name r rows h = rw h refl

no_default : (b : Bool) (rows : List Row) → cond b rows rows ≡ rows
no_default true rows = refl
no_default false rows = refl

-- what defaults leave as it is, of the rows
abbrev Keeps : {X : Type 0} → (List Row → X) → Type 0
Keeps view = (name : Text) (rows : List Row) → view (rows ++ default_row name ∷ []) ≡ view rows

module _ {X : Type 0} (view : List Row → X) (keeps : Keeps view) where
  one_default : (name : Text) (r : Bool) (rows : List Row) → view (with_default rows (chosen name r true)) ≡ view rows
  one_default name r rows = by (has_row name rows) refl
    where
      by : (b : Bool) → has_row name rows ≡ b → view (with_default rows (chosen name r true)) ≡ view rows
      by true e = ap view (default_kept name r rows e)
      by false e = ap view (default_added name r rows e) ∙ keeps name rows

  kept_by : (c : Choice) (rows : List Row) → view (with_default rows (chosen_of c)) ≡ view rows
  kept_by c rows = by (is_flag c)
    where
      by : (b : Bool) → view (with_default rows (chosen c.name c.is_required b)) ≡ view rows
      by true = one_default c.name c.is_required rows
      by false = ap view (no_default (has_row c.name rows) rows)

  defaults_keep : (cs : List Choice) (rows : List Row) → view (fold with_default rows (built_rules cs)) ≡ view rows
  defaults_keep [] rows = ap view (no_default (has_row position rows) rows)
  defaults_keep (c ∷ cs) rows = defaults_keep cs (with_default rows (chosen_of c)) ∙ kept_by c rows

-- a default is no gift
test_keeps : (test : Row → Bool) (name : Text) → ((other : Text) → test (default_row other) ≡ false) → Keeps (first_row test name)
test_keeps test name hidden other [] = by (bytes_eq other name)
  where
    by : (b : Bool) → option_map_or test (cond b (Some (default_row other)) None) false ≡ false
    by true = hidden other
    by false = refl
test_keeps test name hidden other (r ∷ rows) = by (bytes_eq r.id name) (test_keeps test name hidden other rows)
  where
    by : (b : Bool) → first_row test name (rows ++ default_row other ∷ []) ≡ first_row test name rows
        → option_map_or test (cond b (Some r) (find (λ q. bytes_eq q.id name) (rows ++ default_row other ∷ []))) false
        ≡ option_map_or test (cond b (Some r) (find (λ q. bytes_eq q.id name) rows)) false
    by true e = refl
    by false e = e

-- and its value stands in no words
value_keeps : (name : Text) → Keeps (told_in name)
value_keeps name other [] = by (bytes_eq other name)
  where
    by : (b : Bool) → (let found = cond b (Some (default_row other)) None in
        cond (option_map_or (λ r. is_from_words r.source) found false) (option_and_then (λ r. slice_get r.values 0) found) None) ≡ None
    by true = refl
    by false = refl
value_keeps name other (r ∷ rows) = by (bytes_eq r.id name) (value_keeps name other rows)
  where
    by : (b : Bool) → told_in name (rows ++ default_row other ∷ []) ≡ told_in name rows
        → (let found = cond b (Some r) (find (λ q. bytes_eq q.id name) (rows ++ default_row other ∷ [])) in
        cond (option_map_or (λ q. is_from_words q.source) found false) (option_and_then (λ q. slice_get q.values 0) found) None)
        ≡ (let found = cond b (Some r) (find (λ q. bytes_eq q.id name) rows) in
        cond (option_map_or (λ q. is_from_words q.source) found false) (option_and_then (λ q. slice_get q.values 0) found) None)
    by true e = refl
    by false e = e

-- ---- what the rows tell at the end

pub ends_given : (cs : List Choice) (gs : List Given) (name : Text)
    → takes.is_given name (fold with_default (map row_for gs) (built_rules cs)) ≡ is_given gs name
ends_given cs gs name =
    let test : Row → Bool = λ r. explicit_source r.source in
    defaults_keep (first_row test name) (test_keeps test name (λ other. refl)) cs (map row_for gs) ∙ given_rows test (λ g. refl) name gs

pub ends_value : (cs : List Choice) (gs : List Given) (name : Text) → told_in name (fold with_default (map row_for gs) (built_rules cs)) ≡ value_of gs name
ends_value cs gs name = defaults_keep (told_in name) (value_keeps name) cs (map row_for gs) ∙ value_rows name gs

-- ---- the checks after the walk

default_passes : (name : Text) (r f : Bool) (rows : List Row) → default_fault rows (chosen name r f) ≡ []
default_passes name r true rows = by (has_row name rows)
  where
    by : (b : Bool) → cond {A = Kinds} (b || false) [] [] ≡ []
    by true = refl
    by false = refl
default_passes name r false rows = by (has_row name rows)
  where
    by : (b : Bool) → cond {A = Kinds} (b || true) [] (default_fault [] (chosen name r true)) ≡ []
    by true = refl
    by false = refl

defaults_pass : (cs : List Choice) (rows : List Row) → defaults_fault rows (built_rules cs) ≡ []
unfolding defaults_fault
defaults_pass [] rows = by (has_row position rows)
  where
    by : (b : Bool) → or_else (cond {A = Kinds} (b || true) [] []) [] ≡ []
    by true = refl
    by false = refl
defaults_pass (c ∷ cs) rows = rw (default_passes c.name c.is_required (is_flag c) rows) (defaults_pass cs (with_default rows (chosen_of c)))

-- the required choices and the positional word are there
abbrev pub is_complete : List Choice → (Text → Bool) → Bool
is_complete cs there = list_all (λ c. not c.is_required || there c.name) cs && there position

missing : (cs : List Choice) (there : Text → Bool) → list_any (λ a. a.required && not (there a.id)) (built_rules cs) ≡ not (is_complete cs there)
missing [] there = by (there position)
  where
    by : (b : Bool) → (not b || false) ≡ not b
    by true = refl
    by false = refl
missing (c ∷ cs) there = by (is_flag c) ∙ ap (λ b. (c.is_required && not (there c.name)) || b) (missing cs there)
    ∙ join c.is_required (there c.name) (list_all (λ d. not d.is_required || there d.name) cs) (there position)
  where
    by : (f : Bool) → (((chosen c.name c.is_required f).required && not (there (chosen c.name c.is_required f).id)) || list_any
        (λ a. a.required && not (there a.id)) (built_rules cs))
        ≡ ((c.is_required && not (there c.name)) || list_any (λ a. a.required && not (there a.id)) (built_rules cs))
    by true = refl
    by false = refl

    join : (a b m p : Bool) → ((a && not b) || not (m && p)) ≡ not (((not a || b) && m) && p)
    join true true m p = refl
    join true false m p = refl
    join false b m p = refl

pub after_is : (cs : List Choice) (gs : List Given)
    → after_fault cs (map row_for gs) ≡ cond (is_complete cs (is_given gs)) [] (kind.MissingRequiredArgument ∷ [])
after_is cs gs =
    rw (defaults_pass cs (map row_for gs))
    (ap (λ b. cond {A = Kinds} b (kind.MissingRequiredArgument ∷ []) []) (same_missing ∙ missing cs (is_given gs)) ∙ flip (is_complete cs (is_given gs)))
  where
    same_missing : list_any (λ a. a.required && not (takes.is_given a.id (fold with_default (map row_for gs) (built_rules cs)))) (built_rules cs)
        ≡ list_any (λ a. a.required && not (is_given gs a.id)) (built_rules cs)
    same_missing = λ j. list_any (λ (a : Rule). a.required && not (ends_given cs gs a.id j)) (built_rules cs)

    flip : (b : Bool) → cond {A = Kinds} (not b) (kind.MissingRequiredArgument ∷ []) [] ≡ cond b [] (kind.MissingRequiredArgument ∷ [])
    flip true = refl
    flip false = refl
