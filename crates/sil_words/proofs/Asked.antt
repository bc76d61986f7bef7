-- What is asked, from all that is given.
use Rattle.std.proofs.Common.{◌≡◌, ◌∙◌, refl, sym, ap, Bool, true, false, cond, List, [], ◌∷◌, Option, Some, None, IfSome, codes, arith}
use Rattle.std.specs.Option.{option_map_or}
use Rattle.std.specs.Str.{bytes_eq}
use Rattle.sil_words.specs.declared.ask.Ask.{Ask}
use Rattle.verb_table.specs.Table.{Choice, IsCalled, Row, Text}
use Rattle.verb_table.specs.declared.rows.Meaning.{Meaning}
use Rattle.verb_table.specs.declared.rows.Meaning.TheVariants as meaning
use Rattle.sil_words.specs.Language.{IsLevel, IsReading, Reading, ask_of, bare_ask, choice_named, level_named, options_of}
use Rattle.sil_words.specs.Language.{value_of, with_choice, with_choices, with_meaning}
use Rattle.sil_words.specs.Splitting.{givens_of, position}
use Rattle.sil_words.proofs.Views.{first_differs, rest_unplaced, views}
use Rattle.sil_words.proofs.Accepts.{pieces_split}
use Rattle.sil_words.proofs.Sound.{sound}

-- what a verb asks for, by what is told of each name
abbrev pub ask_told : Row → (Text → Option Text) → Ask
ask_told row told = with_choices told (bare_ask row (told position)) row.choices

-- what is told of the positional word makes no difference to the choices
same_choices : (f g : Text → Option Text) → ((name : Text) → bytes_eq position name ≡ false → f name ≡ g name) → (cs : List Choice)
    → choice_named cs position ≡ None → (a : Ask) → with_choices f a cs ≡ with_choices g a cs
same_choices f g same [] unplaced a = refl
same_choices f g same (c ∷ cs) unplaced a =
    ap (λ o. with_choices f (option_map_or (λ value. with_meaning c.meaning value a) o a) cs) (same c.name (first_differs c cs unplaced))
    ∙ same_choices f g same cs (rest_unplaced c cs unplaced) (with_choice g a c)

pub ask_is : (row : Row) → IsCalled row → (words : List Text) (r : Reading) → IsReading row words r → ask_of row r ≡ ask_told row (value_of (givens_of r))
ask_is row called words r h =
    let table = (sound row called).table in
    let seen = views row.choices table r (pieces_split row.choices r.pieces h.pieces) in
    ap (λ word. with_choices (value_of (options_of r)) (bare_ask row word) row.choices) (sym seen.word)
    ∙ sym (same_choices (value_of (givens_of r)) (value_of (options_of r)) seen.value row.choices table.unplaced (bare_ask row (value_of (givens_of r) position)))

-- ---- a level that is asked is one

level_named_is : (value : Text) → IfSome (level_named value) IsLevel
level_named_is value = by (bytes_eq value (codes "1")) (bytes_eq value (codes "2")) (bytes_eq value (codes "3")) (bytes_eq value (codes "4"))
  where
    by : (a b c d : Bool) → IfSome (cond a (Some 1) (cond b (Some 2) (cond c (Some 3) (cond d (Some 4) None)))) IsLevel
    by true b c d = (omega arith, omega arith)
    by false true c d = (omega arith, omega arith)
    by false false true d = (omega arith, omega arith)
    by false false false true = (omega arith, omega arith)
    by false false false false = tt

one_level : (m : Meaning) (o : Option Text) (a : Ask) → IfSome a.need IsLevel → IfSome (option_map_or (λ value. with_meaning m value a) o a).need IsLevel
one_level m None a h = h
one_level meaning.Need (Some value) a h = level_named_is value
one_level meaning.Mode (Some value) a h = h
one_level (meaning.Watch kind) (Some value) a h = h

pub level_asked : (told : Text → Option Text) (cs : List Choice) (a : Ask) → IfSome a.need IsLevel → IfSome (with_choices told a cs).need IsLevel
level_asked told [] a h = h
level_asked told (c ∷ cs) a h = level_asked told cs (with_choice told a c) (one_level c.meaning (told c.name) a h)
