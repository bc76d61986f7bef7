-- The table of verbs: by which word each is called, what follows it, and what its options take.
use Rattle.std.specs.Prelude.{codes, ◌≡◌, ℕ, Bool, true, false, List, [], ◌∷◌, Option, Some, find}
use Rattle.std.specs.List.{list_any}
use Rattle.std.specs.Str.{bytes_eq}
use Rattle.sil_watch.specs.declared.kind.WatcherKind.TheVariants.{Series, Peak, Occupancy}
use Rattle.verb_table.specs.declared.rows.Meaning.{Meaning}
use Rattle.verb_table.specs.declared.rows.Meaning.TheVariants.{Need, Mode, Watch}
use Rattle.verb_table.specs.declared.verb.Positional.{Positional}
use Rattle.verb_table.specs.declared.verb.Positional.TheVariants.{Name, Number}
use Rattle.verb_table.specs.declared.verb.Verb.{Verb}
use Rattle.verb_table.specs.declared.verb.Verb.TheVariants.{Check, Size, Gen, Bench}

abbrev pub Text : Type 0
Text = List ℕ

-- what an option takes
pub data Values : Type 0 where
  -- a flag takes nothing
  nothing : Values
  -- one of these texts
  one_of : List Text → Values

-- an option or a flag, which is spelled with two dashes before its name, and what it gives to what is asked
pub record Choice : Type 0 where
  pub name : Text
  pub values : Values
  pub is_required : Bool
  pub meaning : Meaning

-- a verb, the word by which it is called, and what follows: one positional word of this kind, and options and flags
pub record Row : Type 0 where
  pub verb : Verb
  pub word : Text
  pub positional : Positional
  pub choices : List Choice

-- the options and flags

abbrev pub need : Choice
need = record { name = codes "need"; values = one_of (codes "1" ∷ codes "2" ∷ codes "3" ∷ codes "4" ∷ []); is_required = false; meaning = Need }

abbrev pub mode : Choice
mode = record { name = codes "mode"; values = one_of (codes "low" ∷ codes "high" ∷ codes "both" ∷ []); is_required = false; meaning = Mode }

abbrev pub series : Choice
series = record { name = codes "series"; values = nothing; is_required = false; meaning = Watch Series }

abbrev pub peak : Choice
peak = record { name = codes "peak"; values = nothing; is_required = false; meaning = Watch Peak }

abbrev pub occupancy : Choice
occupancy = record { name = codes "occupancy"; values = nothing; is_required = false; meaning = Watch Occupancy }

-- the options and flags of a verb that answers with a loop's figures
abbrev pub of_figures : List Choice
of_figures = need ∷ mode ∷ series ∷ peak ∷ occupancy ∷ []

-- the row of each verb

abbrev pub check_row : Row
check_row = record { verb = Check; word = codes "check"; positional = Name; choices = of_figures }

abbrev pub size_row : Row
size_row = record { verb = Size; word = codes "size"; positional = Name; choices = [] }

abbrev pub gen_row : Row
gen_row = record { verb = Gen; word = codes "gen"; positional = Number; choices = [] }

abbrev pub bench_row : Row
bench_row = record { verb = Bench; word = codes "bench"; positional = Number; choices = of_figures }

-- the verbs, in the order of the usage text
unfoldable pub verb_table : List Row
verb_table = check_row ∷ size_row ∷ gen_row ∷ bench_row ∷ []

-- what is read from the table

-- the row of the verb that is called by this word
abbrev pub row_named : Text → Option Row
row_named word = find (λ row. bytes_eq row.word word) verb_table

-- a word calls the verb of this row
abbrev pub IsCalled : Row → Type 0
IsCalled row = (word : Text) × (row_named word ≡ Some row)

abbrev pub is_flag : Choice → Bool
is_flag c = elim c.values [ nothing ↦ true | _ ↦ false ]

-- an option that takes these takes this text
abbrev pub accepts : Values → Text → Bool
accepts nothing value = false
accepts (one_of values) value = list_any (λ v. bytes_eq v value) values
