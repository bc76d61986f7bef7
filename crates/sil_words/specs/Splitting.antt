-- The command of `clap` for a verb, and what it makes of the words after the verb.
use Rattle.std.specs.Prelude.{codes, ◌≡◌, ◌&&◌, ◌||◌, Bool, true, false, not, List, [], ◌∷◌, ◌++◌, map, if◌then◌else◌, Option, Some, None}
use Rattle.std.specs.List.{list_all}
use Rattle.std.specs.Option.{option_map_or}
use Rattle.std.specs.Prelude.{option_and_then, option_map}
use Rattle.std.specs.Borrow.{Bor}
use Rattle.clap.specs.Matches.{first_value, found_of, matched_of}
use Rattle.clap.specs.Walk.{Rule}
use Rattle.clap.specs.declared.parser.matches.ArgMatches.{ArgMatches}
use Rattle.clap.specs.declared.parser.matches.Found.{Found}
use Rattle.clap.specs.declared.parser.matches.ValueSource.{ValueSource}
use Rattle.clap.specs.declared.parser.matches.ValueSource.TheVariants.{CommandLine}
use Rattle.clap.specs.Simple.{App, new_app, new_rule}
use Rattle.clap.specs.declared.builder.action.ArgAction.TheVariants.{Set, SetTrue}
use Rattle.verb_table.specs.Table.{Choice, Text, accepts, is_flag}
use Rattle.sil_words.specs.Language.{Given, Piece, flag, joined, apart, plain, Reading, choice_named, is_flag_of, is_given, is_once, is_plain}
use Rattle.sil_words.specs.Language.{given_flag, value_of, words_of}

-- ---- all that is given, the positional words among it

-- the name of a positional word, which no choice has
abbrev pub position : Text
position = codes "WORD"

abbrev pub given_by : Piece → Given
given_by (flag name) = given_flag name
given_by (joined name value) = record { name = name; value = value }
given_by (apart name value) = record { name = name; value = value }
given_by (plain word) = record { name = position; value = word }

abbrev pub given_further : Option (List Text) → List Given
given_further None = []
given_further (Some words) = map (λ word. record { name = position; value = word }) words

abbrev pub givens_of : Reading → List Given
givens_of r = map given_by r.pieces ++ given_further r.further

-- ---- the command

abbrev pub rule_for : Choice → Rule
rule_for c = record (new_rule c.name) { long = Some c.name; action = Some (if (is_flag c) then SetTrue else Set); required = c.is_required }

abbrev pub position_rule : Rule
position_rule = record (new_rule position) { required = true; action = Some Set }

-- a command with these arguments, and none that `clap` adds
abbrev pub command_with : List Rule → App
command_with rules = record { top = record (new_app (codes "sil")).top { no_binary_name = true; disable_help_flag = true; rules = rules }; subs = [] }

abbrev pub command_of : List Choice → App
command_of choices = command_with (map rule_for choices ++ position_rule ∷ [])

-- ---- the words as `clap` splits them, with any values

abbrev pub is_option_of : List Choice → Text → Bool
is_option_of choices name = option_map_or (λ c. not (is_flag c)) (choice_named choices name) false

abbrev pub is_split_piece : List Choice → Piece → Bool
is_split_piece choices (flag name) = is_flag_of choices name
is_split_piece choices (joined name value) = is_option_of choices name
is_split_piece choices (apart name value) = is_option_of choices name && is_plain value
is_split_piece choices (plain word) = is_plain word

-- the words are split so, into what the choices and the positional word need
pub record IsSplit (choices : List Choice) (words : List Text) (r : Reading) : Type 0 where
  pub spelled : words ≡ words_of r
  pub pieces : list_all (is_split_piece choices) r.pieces ≡ true
  pub once : is_once (givens_of r) ≡ true
  pub required : list_all (λ c. not c.is_required || is_given (givens_of r) c.name) choices ≡ true
  pub positional : is_given (givens_of r) position ≡ true

-- ---- what its matches tell

-- the text behind a reference
abbrev pub shown : Option (Bor Text) → Option Text
shown = option_map (λ v. v.now)

abbrev pub is_from_words : Option ValueSource → Bool
is_from_words (Some CommandLine) = true
is_from_words _ = false

-- the source of what is found under a name
abbrev pub source_of : Found → Text → Option ValueSource
source_of found name = option_and_then (λ a. a.source) (matched_of found name)

-- the value that matches tell of a name that stands in the words
abbrev pub told_by : ArgMatches → Text → Option Text
told_by m name = if is_from_words (source_of (found_of m) name) then first_value (found_of m) name else None

-- the option takes this value, where there is one
abbrev pub takes_told : Choice → Option Text → Bool
takes_told c value = is_flag c || option_map_or (accepts c.values) value true

-- each option takes the value that is told of its name
abbrev pub are_taken : List Choice → (Text → Option Text) → Bool
are_taken choices told = list_all (λ c. takes_told c (told c.name)) choices

-- the matches tell what is given
abbrev pub Tells : ArgMatches → List Given → Type 0
Tells m givens = (name : Text) → told_by m name ≡ value_of givens name

-- the words are split in some way, and in whatever way, the matches tell what is given
abbrev pub TellsOf : List Choice → List Text → ArgMatches → Type 0
TellsOf choices words m = ((r : Reading) × IsSplit choices words r) × ((r : Reading) → IsSplit choices words r → Tells m (givens_of r))
