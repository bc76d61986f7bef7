-- Choice by choice, whether what is told is taken, and what is asked.
use Rattle.std.proofs.Common.{◌≡◌, refl, ℕ, ◌+◌, ◌<◌, ◌&&◌, Bool, List, map, get_or, drop, length, Option, add-one}
use Rattle.std.proofs.Math.Seq.{drop-cons}
use Rattle.verb_table.specs.Rows.{seen_choice}
use Rattle.verb_table.specs.Table.{Text}
use Rattle.verb_table.specs.declared.rows.ChoiceRow.{ChoiceRow}
use Rattle.sil_words.specs.declared.ask.Ask.{Ask}
use Rattle.sil_words.specs.Language.{with_choice, with_choices}
use Rattle.sil_words.specs.Splitting.{are_taken, takes_told}

-- whether what is told of the choices from the i-th on is taken
abbrev pub taken_from : List ChoiceRow → (Text → Option Text) → ℕ → Bool
taken_from choices told i = are_taken (map seen_choice (drop i choices)) told

pub next_taken : (choices : List ChoiceRow) (told : Text → Option Text) (i : ℕ) (d : ChoiceRow) → i < length choices
    → (let c = seen_choice (get_or choices i d) in taken_from choices told i ≡ (takes_told c (told c.name) && taken_from choices told (i + 1)))
next_taken choices told i d h = rw (add-one, drop-cons choices i d) refl

-- what is asked when the choices from the i-th on are still to come
abbrev pub asked_from : List ChoiceRow → (Text → Option Text) → ℕ → Ask → Ask
asked_from choices told i a = with_choices told a (map seen_choice (drop i choices))

pub next_asked : (choices : List ChoiceRow) (told : Text → Option Text) (i : ℕ) (d : ChoiceRow) (a : Ask) → i < length choices
    → asked_from choices told i a ≡ asked_from choices told (i + 1) (with_choice told a (seen_choice (get_or choices i d)))
next_asked choices told i d a h = rw (add-one, drop-cons choices i d) refl
