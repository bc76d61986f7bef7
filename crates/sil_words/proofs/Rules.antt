-- The rules of a command, once it is built: those of the choices, and then that of the positional word.
use Rattle.std.proofs.Common.{◌≡◌, ◌∙◌, refl, ap, ap₂, ℕ, Bool, true, false, not, cond, ◌&&◌, ◌||◌, List, [], ◌∷◌, ◌++◌, map, Some, None, option_map}
use Rattle.std.proofs.Common.{is_some, count_by}
use Rattle.std.specs.List.{list_all, list_any}
use Rattle.std.specs.Str.{bytes_eq}
use Rattle.clap.specs.Walk.{Rule, arg_by_id, arg_by_index, arg_by_long, arg_by_short, has_long, is_early_multiple, rows_after, nothing_held}
use Rattle.clap.specs.Simple.{built, filled, filled_from, is_in_order, matches_of, new_rule, with_index}
use Rattle.clap.specs.Faults.{fault_of, level_fault, is_simple_and_free}
use Rattle.clap.proofs.FaultLemmas.{leaf_fault}
use Rattle.clap.specs.declared.builder.action.ArgAction.TheVariants.{Set, SetTrue}
use Rattle.verb_table.specs.Table.{Choice, Text, is_flag}
use Rattle.sil_words.specs.Language.{choice_named}
use Rattle.sil_words.specs.Splitting.{position}
use Rattle.sil_words.specs.Splitting.{command_of, position_rule, rule_for}
use Rattle.sil_words.proofs.Turns.{placed, shape}

-- the rule of a choice
abbrev pub chosen : Text → Bool → Bool → Rule
chosen name is_required true = filled (record (new_rule name) { long = Some name; action = Some SetTrue; required = is_required })
chosen name is_required false = filled (record (new_rule name) { long = Some name; action = Some Set; required = is_required })

abbrev pub chosen_of : Choice → Rule
chosen_of c = chosen c.name c.is_required (is_flag c)

abbrev pub built_rules : List Choice → List Rule
built_rules choices = map chosen_of choices ++ placed ∷ []

-- ---- building

filled_one : (name : Text) (r f : Bool)
    → with_index 1 (filled (record (new_rule name) { long = Some name; action = Some (cond f SetTrue Set); required = r })) ≡ chosen name r f
filled_one name r true = refl
filled_one name r false = refl

filled_all : (cs : List Choice) → filled_from 1 (map rule_for cs ++ position_rule ∷ []) ≡ built_rules cs
filled_all [] = refl
filled_all (c ∷ cs) = ap₂ (λ a more. a ∷ more) (filled_one c.name c.is_required (is_flag c)) (filled_all cs)

pub fault_is : (cs : List Choice) (words : List Text) → fault_of (command_of cs) words ≡ level_fault (shape (built_rules cs)) [] nothing_held words false []
fault_is cs words = leaf_fault (built (command_of cs)) nothing_held words refl
    ∙ ap (λ rules. level_fault (shape rules) [] nothing_held words false []) (filled_all cs)

pub matches_are : (cs : List Choice) (words : List Text) → matches_of (command_of cs) words ≡ rows_after (built_rules cs) [] words
matches_are cs words = ap (λ rules. rows_after rules [] words) (filled_all cs)

-- ---- the command is simple

simple_rules : (cs : List Choice) → list_all (λ a. a.is_simple) (map rule_for cs ++ position_rule ∷ []) ≡ true
simple_rules [] = refl
simple_rules (c ∷ cs) = simple_rules cs

all_of_chosen : (p : Rule → Bool) → ((name : Text) (r f : Bool) → p (chosen name r f) ≡ true) → p placed ≡ true → (cs : List Choice)
    → list_all p (built_rules cs) ≡ true
all_of_chosen p each last [] = rw last refl
all_of_chosen p each last (c ∷ cs) = rw (each c.name c.is_required (is_flag c)) (all_of_chosen p each last cs)

none_of_chosen : (p : Rule → Bool) → ((name : Text) (r f : Bool) → p (chosen name r f) ≡ false) → p placed ≡ false → (cs : List Choice)
    → list_any p (built_rules cs) ≡ false
none_of_chosen p each last [] = rw last refl
none_of_chosen p each last (c ∷ cs) = rw (each c.name c.is_required (is_flag c)) (none_of_chosen p each last cs)

is_simple_chosen : (name : Text) (r f : Bool) → (chosen name r f).is_simple ≡ true
is_simple_chosen name r true = refl
is_simple_chosen name r false = refl

is_free_chosen : (name : Text) (r f : Bool) → (chosen name r f).is_free ≡ true
is_free_chosen name r true = refl
is_free_chosen name r false = refl

no_index : (name : Text) (r f : Bool) → (chosen name r f).index ≡ None
no_index name r true = refl
no_index name r false = refl

in_order : (cs : List Choice) → is_in_order (built_rules cs) ≡ true
in_order cs = ap not (none_of_chosen (is_early_multiple (count_by (λ a. is_some a.index) (built_rules cs)))
    (λ name r f. rw (no_index name r f) refl) refl cs)

pub simple_command : (cs : List Choice) → is_simple_and_free (command_of cs) ≡ true
simple_command cs =
    rw (
      simple_rules cs,
      filled_all cs,
      all_of_chosen (λ a. a.is_simple) is_simple_chosen refl cs,
      in_order cs,
      all_of_chosen
          (λ a. a.is_free) is_free_chosen refl cs,
    ) refl

or-false : (b : Bool) → (b || false) ≡ b
or-false true = refl
or-false false = refl

-- ---- which rule is found

has_name : (a name : Text) (r f : Bool) → (not (is_some (chosen a r f).index) && has_long (chosen a r f) name) ≡ bytes_eq a name
has_name a name r true = or-false (bytes_eq a name)
has_name a name r false = or-false (bytes_eq a name)

has_id : (a : Text) (r f : Bool) → (chosen a r f).id ≡ a
has_id a r true = refl
has_id a r false = refl

pub long_found : (cs : List Choice) (name : Text) → arg_by_long (built_rules cs) name ≡ option_map chosen_of (choice_named cs name)
long_found [] name = refl
long_found (c ∷ cs) name = rw (has_name c.name name c.is_required (is_flag c)) (by (bytes_eq c.name name) (long_found cs name))
  where
    by : (b : Bool) → arg_by_long (built_rules cs) name ≡ option_map chosen_of (choice_named cs name)
        → cond b (Some (chosen_of c)) (arg_by_long (built_rules cs) name) ≡ option_map chosen_of (cond b (Some c) (choice_named cs name))
    by true h = refl
    by false h = h

pub id_found : (cs : List Choice) (name : Text) (c : Choice) → choice_named cs name ≡ Some c → arg_by_id (built_rules cs) name ≡ Some (chosen_of c)
id_found [] name c e = cc
id_found (d ∷ cs) name c e = rw (has_id d.name d.is_required (is_flag d)) (by (bytes_eq d.name name) (id_found cs name c) e)
  where
    by : (b : Bool) → (choice_named cs name ≡ Some c → arg_by_id (built_rules cs) name ≡ Some (chosen_of c))
        → cond b (Some d) (choice_named cs name) ≡ Some c → cond b (Some (chosen_of d)) (arg_by_id (built_rules cs) name) ≡ Some (chosen_of c)
    by true h e = ap (option_map chosen_of) e
    by false h e = h e

-- no choice has the name of the positional word
abbrev pub Unplaced : List Choice → Type 0
Unplaced cs = choice_named cs position ≡ None

pub position_found : (cs : List Choice) → Unplaced cs → arg_by_id (built_rules cs) position ≡ Some placed
position_found [] e = refl
position_found (d ∷ cs) e = rw (has_id d.name d.is_required (is_flag d)) (by (bytes_eq d.name position) (position_found cs) e)
  where
    by : (b : Bool) → (choice_named cs position ≡ None → arg_by_id (built_rules cs) position ≡ Some placed)
        → cond b (Some d) (choice_named cs position) ≡ None → cond b (Some (chosen_of d)) (arg_by_id (built_rules cs) position) ≡ Some placed
    by true h e = cc
    by false h e = h e

pub short_found : (cs : List Choice) (x : ℕ) → arg_by_short (built_rules cs) x ≡ None
short_found [] x = refl
short_found (c ∷ cs) x = by (is_flag c) (short_found cs x)
  where
    by : (f : Bool) → arg_by_short (built_rules cs) x ≡ None → arg_by_short (chosen c.name c.is_required f ∷ built_rules cs) x ≡ None
    by true h = h
    by false h = h

pub first_found : (cs : List Choice) → arg_by_index (built_rules cs) 1 ≡ Some placed
first_found [] = refl
first_found (c ∷ cs) = rw (no_index c.name c.is_required (is_flag c)) (first_found cs)

pub second_found : (cs : List Choice) → arg_by_index (built_rules cs) 2 ≡ None
second_found [] = refl
second_found (c ∷ cs) = rw (no_index c.name c.is_required (is_flag c)) (second_found cs)
