-- The words of a run: which lists of words are in the language, and what each of them asks for.
use Rattle.std.specs.Prelude.{codes, ◌≡◌, ℕ, ◌^◌, ◌≤◌, ◌==◌, ◌&&◌, ◌||◌, nat_le, nat_lt, Bool, true, false, not, List, [], ◌∷◌, ◌++◌, length, find}
use Rattle.std.specs.Prelude.{if◌then◌else◌, Option, Some, None, option_map, fold}
use Rattle.std.specs.List.{list_all, list_any}
use Rattle.std.specs.Option.{option_map_or}
use Rattle.std.specs.Char.{is_ascii_digit}
use Rattle.std.specs.Str.{bytes_eq}
use Rattle.std.specs.Str.Parse.{digits_value}
use Rattle.sil_watch.specs.Kinds.{no_kinds, with_kind}
use Rattle.sil_words.specs.declared.ask.Ask.{Ask}
use Rattle.sil_words.specs.declared.ask.Mode.{Mode}
use Rattle.sil_words.specs.declared.ask.Mode.TheVariants.{Low, High, Both}
use Rattle.verb_table.specs.Table.{Choice, Row, Text, accepts, is_flag, row_named}
use Rattle.verb_table.specs.declared.rows.Meaning.{Meaning}
use Rattle.verb_table.specs.declared.rows.Meaning.TheVariants as meaning
use Rattle.verb_table.specs.declared.verb.Positional.{Positional}
use Rattle.verb_table.specs.declared.verb.Positional.TheVariants.{Name, Number}

-- Words are lists of bytes: a dash is 45, and an equals sign 61.

-- ---- the words after the verb

-- what one or two of the words are
pub data Piece : Type 0 where
  -- `--name`
  flag : Text → Piece
  -- `--name=value`
  joined : Text → Text → Piece
  -- `--name value`
  apart : Text → Text → Piece
  -- a positional word
  plain : Text → Piece

-- the name with two dashes before it
abbrev pub dashed : Text → Text
dashed name = 45 ∷ 45 ∷ name

-- the word `--`, after which each word is positional
abbrev pub dashes : Text
dashes = 45 ∷ 45 ∷ []

abbrev pub words_of_piece : Piece → List Text
words_of_piece (flag name) = dashed name ∷ []
words_of_piece (joined name value) = dashed (name ++ 61 ∷ value) ∷ []
words_of_piece (apart name value) = dashed name ∷ value ∷ []
words_of_piece (plain word) = word ∷ []

abbrev pub words_of_pieces : List Piece → List Text → List Text
words_of_pieces [] rest = rest
words_of_pieces (piece ∷ pieces) rest = words_of_piece piece ++ words_of_pieces pieces rest

-- how the words after the verb are read
pub record Reading : Type 0 where
  pub pieces : List Piece
  -- the words after `--`, where it stands
  pub further : Option (List Text)

abbrev pub further_words : Option (List Text) → List Text
further_words None = []
further_words (Some words) = dashes ∷ words

abbrev pub words_of : Reading → List Text
words_of r = words_of_pieces r.pieces (further_words r.further)

-- ---- what may stand there

abbrev pub begins_with_dash : Text → Bool
begins_with_dash [] = false
begins_with_dash (x ∷ xs) = x == 45

abbrev pub is_dash : Text → Bool
is_dash word = bytes_eq word (45 ∷ [])

-- the word is `-`, or does not begin with `-`
abbrev pub is_plain : Text → Bool
is_plain word = is_dash word || not (begins_with_dash word)

abbrev pub choice_named : List Choice → Text → Option Choice
choice_named choices name = find (λ c. bytes_eq c.name name) choices

abbrev pub is_flag_of : List Choice → Text → Bool
is_flag_of choices name = option_map_or is_flag (choice_named choices name) false

-- an option of this name takes this value
abbrev pub is_value_of : List Choice → Text → Text → Bool
is_value_of choices name value = option_map_or (λ c. not (is_flag c) && accepts c.values value) (choice_named choices name) false

abbrev pub is_piece_of : List Choice → Piece → Bool
is_piece_of choices (flag name) = is_flag_of choices name
is_piece_of choices (joined name value) = is_value_of choices name value
is_piece_of choices (apart name value) = is_value_of choices name value && not (begins_with_dash value)
is_piece_of choices (plain word) = is_plain word

-- 1 to 20 digits, with a value below 2^64
abbrev pub is_number : Text → Bool
is_number word = nat_lt 0 (length word) && (nat_le (length word) 20 && (list_all is_ascii_digit word && nat_lt (digits_value 10 word) (2 ^ 64)))

-- a name is any text
abbrev pub is_positional : Positional → Text → Bool
is_positional Name word = true
is_positional Number word = is_number word

-- ---- what is given

-- a flag, or an option with its value
pub record Given : Type 0 where
  pub name : Text
  pub value : Text

-- a flag has no value of its own
abbrev pub given_flag : Text → Given
given_flag name = record { name = name; value = codes "true" }

abbrev pub options_in : List Piece → List Given
options_in [] = []
options_in (flag name ∷ pieces) = given_flag name ∷ options_in pieces
options_in (joined name value ∷ pieces) = record { name = name; value = value } ∷ options_in pieces
options_in (apart name value ∷ pieces) = record { name = name; value = value } ∷ options_in pieces
options_in (plain word ∷ pieces) = options_in pieces

-- the flags and options that stand
abbrev pub options_of : Reading → List Given
options_of r = options_in r.pieces

abbrev pub plain_in : List Piece → List Text
plain_in [] = []
plain_in (plain word ∷ pieces) = word ∷ plain_in pieces
plain_in (piece ∷ pieces) = plain_in pieces

abbrev pub or_no_words : Option (List Text) → List Text
or_no_words None = []
or_no_words (Some words) = words

-- the positional words: those before `--`, and each word after it
abbrev pub positionals_of : Reading → List Text
positionals_of r = plain_in r.pieces ++ or_no_words r.further

abbrev pub is_given : List Given → Text → Bool
is_given givens name = list_any (λ g. bytes_eq g.name name) givens

-- none of the names stands twice
abbrev pub is_once : List Given → Bool
is_once [] = true
is_once (g ∷ givens) = not (is_given givens g.name) && is_once givens

abbrev pub value_of : List Given → Text → Option Text
value_of givens name = option_map (λ g. g.value) (find (λ g. bytes_eq g.name name) givens)

abbrev pub first_word : List Text → Option Text
first_word [] = None
first_word (word ∷ words) = Some word

-- there is exactly one word, and it passes
abbrev pub is_one : (Text → Bool) → List Text → Bool
is_one passes (word ∷ []) = passes word
is_one passes _ = false

-- ---- the language

-- the words are read so after a verb of this row
pub record IsReading (row : Row) (words : List Text) (r : Reading) : Type 0 where
  pub spelled : words ≡ words_of r
  pub pieces : list_all (is_piece_of row.choices) r.pieces ≡ true
  -- no flag or option stands twice
  pub once : is_once (options_of r) ≡ true
  -- the required ones stand
  pub required : list_all (λ c. not c.is_required || is_given (options_of r) c.name) row.choices ≡ true
  -- there is exactly one positional word, of the verb's kind
  pub positional : is_one (is_positional row.positional) (positionals_of r) ≡ true

-- the words are the word of a verb, and what is read after it
pub record IsCall (words : List Text) (row : Row) (r : Reading) : Type 0 where
  pub word : Text
  pub rest : List Text
  pub split : words ≡ word ∷ rest
  pub verb : row_named word ≡ Some row
  pub reading : IsReading row rest r

abbrev pub IsInLanguage : List Text → Type 0
IsInLanguage words = (row : Row) × (r : Reading) × IsCall words row r

-- ---- what is asked

abbrev pub name_asked : Positional → Option Text → Text
name_asked Name (Some word) = word
name_asked _ _ = []

abbrev pub number_asked : Positional → Option Text → ℕ
number_asked Number (Some word) = digits_value 10 word
number_asked _ _ = 0

-- the safety integrity level that a value names
abbrev pub level_named : Text → Option ℕ
level_named value =
    if bytes_eq value (codes "1") then Some 1
    else if bytes_eq value (codes "2") then Some 2
    else if bytes_eq value (codes "3") then Some 3
    else if bytes_eq value (codes "4") then Some 4
    else None

-- a safety integrity level
abbrev pub IsLevel : ℕ → Type 0
IsLevel n = (1 ≤ n) × (n ≤ 4)

-- the figures that a value names
abbrev pub mode_named : Text → Mode
mode_named value = if bytes_eq value (codes "high") then High else if bytes_eq value (codes "both") then Both else Low

-- what a verb asks for with this positional word, where no option and no flag stands
abbrev pub bare_ask : Row → Option Text → Ask
bare_ask row word = record {
  verb = row.verb;
  name = name_asked row.positional word;
  number = number_asked row.positional word;
  need = None;
  mode = Low;
  watch = no_kinds;
}

-- what an option of this meaning makes of what is asked, by its value; a flag's value is not looked at
abbrev pub with_meaning : Meaning → Text → Ask → Ask
with_meaning meaning.Need value a = record a { need = level_named value }
with_meaning meaning.Mode value a = record a { mode = mode_named value }
with_meaning (meaning.Watch kind) value a = record a { watch = with_kind kind a.watch }

-- what an option or a flag makes of what is asked, by the value that is given to its name, if one is
abbrev pub with_choice : (Text → Option Text) → Ask → Choice → Ask
with_choice given a c = option_map_or (λ value. with_meaning c.meaning value a) (given c.name) a

abbrev pub with_choices : (Text → Option Text) → Ask → List Choice → Ask
with_choices given a choices = fold (with_choice given) a choices

abbrev pub ask_of : Row → Reading → Ask
ask_of row r = with_choices (value_of (options_of r)) (bare_ask row (first_word (positionals_of r))) row.choices

-- the words are in the language, and this is what they ask for, in whatever way they are read
abbrev pub Asks : List Text → Ask → Type 0
Asks words a = IsInLanguage words × ((row : Row) (r : Reading) → IsCall words row r → a ≡ ask_of row r)

-- the same of the words after the verb of a row
abbrev pub AsksAfter : Row → List Text → Ask → Type 0
AsksAfter row words a = ((r : Reading) × IsReading row words r) × ((r : Reading) → IsReading row words r → a ≡ ask_of row r)

-- however the words are read, they ask for the same
abbrev pub OneAsk : Type 0
OneAsk = (words : List Text) (row other : Row) (r q : Reading) → IsCall words row r → IsCall words other q → ask_of row r ≡ ask_of other q
