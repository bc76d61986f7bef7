-- The command of a verb, as it is put together choice by choice.
use Rattle.std.proofs.Common.{◌≡◌, ◌∙◌, ◌++◌, ◌∷◌, [], ◌+◌, ◌<◌, ◌≤◌, ℕ, map, sym, ap, take, length, get_or, List, take_all}
use Rattle.std.proofs.lemmas.List.{map-append, take_more}
use Rattle.clap.specs.Simple.{with_rule}
use Rattle.clap.specs.Walk.{Rule}
use Rattle.verb_table.specs.Rows.{seen_choice}
use Rattle.verb_table.specs.declared.rows.ChoiceRow.{ChoiceRow}
use Rattle.sil_words.specs.Splitting.{command_of, command_with, position_rule, rule_for}

-- the rules of the first choices
abbrev pub rules_so_far : List ChoiceRow → ℕ → List Rule
rules_so_far choices i = map rule_for (map seen_choice (take i choices))

pub one_more : (choices : List ChoiceRow) (i : ℕ) (d : ChoiceRow) → i < length choices
    → with_rule (command_with (rules_so_far choices i)) (rule_for (seen_choice (get_or choices i d))) ≡ command_with (rules_so_far choices (i + 1))
one_more choices i d lt =
    let last = get_or choices i d ∷ [] in
    ap command_with (sym (
    ap (λ cs. map rule_for (map seen_choice cs)) (take_more choices i d lt)
    ∙ ap (map rule_for) (map-append seen_choice (take i choices) last)
    ∙ map-append rule_for (map seen_choice (take i choices)) (map seen_choice last)))

pub all_rules : (choices : List ChoiceRow) (i : ℕ) → length choices ≤ i
    → with_rule (command_with (rules_so_far choices i)) position_rule ≡ command_of (map seen_choice choices)
all_rules choices i le = ap (λ cs. command_with (map rule_for (map seen_choice cs) ++ position_rule ∷ [])) (take_all i choices le)
