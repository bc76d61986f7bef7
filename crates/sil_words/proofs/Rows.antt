-- The rows that a parse keeps: one for each thing that was given.
use Rattle.std.proofs.Common.{◌≡◌, ◌∙◌, refl, ap, Bool, true, false, cond, ◌&&◌, ◌||◌, List, [], ◌∷◌, ◌++◌, Some, None, append-nil}
use Rattle.std.specs.Str.{bytes_eq}
use Rattle.clap.specs.Walk.{Row, at_row, has_row, used, with_values, without, more_values}
use Rattle.clap.specs.Faults.{use_fault}
use Rattle.clap.specs.Kinds.{Kinds, or_else}
use Rattle.clap.specs.declared.error.kind.ErrorKind.TheVariants as kind
use Rattle.clap.specs.declared.builder.value_parser.Reading.TheVariants.{AsWritten}
use Rattle.clap.specs.declared.parser.matches.ValueSource.TheVariants.{CommandLine}
use Rattle.verb_table.specs.Table.{Text}
use Rattle.sil_words.specs.Language.{Given, given_flag}
use Rattle.sil_words.specs.Splitting.{position}
use Rattle.sil_words.proofs.Turns.{placed}
use Rattle.sil_words.proofs.Rules.{chosen}

abbrev pub row_for : Given → Row
row_for g = record { id = g.name; values = g.value ∷ []; count = None; source = Some CommandLine; reading = AsWritten }

-- the rows with one more
abbrev pub more : List Row → Given → List Row
more rows g = rows ++ row_for g ∷ []

pub has_row_more : (id : Text) (rows : List Row) (g : Given) → has_row id (more rows g) ≡ (has_row id rows || bytes_eq g.name id)
has_row_more id [] g = by (bytes_eq g.name id)
  where
    by : (b : Bool) → (b || false) ≡ b
    by true = refl
    by false = refl
has_row_more id (r ∷ rows) g = by (bytes_eq r.id id) (has_row_more id rows g)
  where
    by : (b : Bool) → has_row id (more rows g) ≡ (has_row id rows || bytes_eq g.name id)
        → (b || has_row id (more rows g)) ≡ ((b || has_row id rows) || bytes_eq g.name id)
    by true e = refl
    by false e = e

pub at_row_none : (id : Text) (change : Row → List Row) (missing rows : List Row) → has_row id rows ≡ false → at_row id change missing rows ≡ rows ++ missing
at_row_none id change missing [] h = refl
at_row_none id change missing (r ∷ rows) h = by (bytes_eq r.id id) h (at_row_none id change missing rows)
  where
    by : (b : Bool) → (b || has_row id rows) ≡ false → (has_row id rows ≡ false → at_row id change missing rows ≡ rows ++ missing)
        → cond b (change r ++ rows) (r ∷ at_row id change missing rows) ≡ r ∷ rows ++ missing
    by true h ih = cc
    by false h ih = ap (λ rest. r ∷ rest) (ih h)

without_none : (id : Text) (rows : List Row) → has_row id rows ≡ false → without id rows ≡ rows
without_none id rows h = at_row_none id (λ r. []) [] rows h ∙ append-nil rows

set_row : (g : Given) (rows : List Row) → has_row g.name rows ≡ false
    → with_values g.name AsWritten CommandLine (g.value ∷ []) (without g.name rows) ≡ more rows g
set_row g rows h = ap (with_values g.name AsWritten CommandLine (g.value ∷ [])) (without_none g.name rows h)
    ∙ at_row_none g.name (more_values CommandLine (g.value ∷ [])) (row_for g ∷ []) rows h

-- ---- one use

pub flag_used : (name : Text) (r : Bool) (rows : List Row) → has_row name rows ≡ false → used (chosen name r true) [] rows ≡ more rows (given_flag name)
flag_used name r rows h = set_row (given_flag name) rows h

pub option_used : (name value : Text) (r : Bool) (rows : List Row) → has_row name rows ≡ false
    → used (chosen name r false) (value ∷ []) rows ≡ more rows (record { name = name; value = value })
option_used name value r rows h = set_row (record { name = name; value = value }) rows h

pub word_used : (word : Text) (rows : List Row) → has_row position rows ≡ false
    → used placed (word ∷ []) rows ≡ more rows (record { name = position; value = word })
word_used word rows h = set_row (record { name = position; value = word }) rows h

pub flag_passes : (name : Text) (r : Bool) (rows : List Row) → has_row name rows ≡ false → use_fault false (chosen name r true) [] rows ≡ []
flag_passes name r rows h = rw h refl

pub option_passes : (name value : Text) (r : Bool) (rows : List Row) → has_row name rows ≡ false → use_fault false (chosen name r false) (value ∷ []) rows ≡ []
option_passes name value r rows h = rw h refl

pub word_passes : (word : Text) (rows : List Row) → has_row position rows ≡ false → use_fault false placed (word ∷ []) rows ≡ []
word_passes word rows h = rw h refl

-- a second use is a fault
repeated : (b : Bool) (more : Kinds) → or_else (cond (b && true) (kind.ArgumentConflict ∷ []) []) more ≡ [] → b ≡ false
repeated true more h = cc
repeated false more h = refl

pub flag_new : (name : Text) (r : Bool) (rows : List Row) → use_fault false (chosen name r true) [] rows ≡ [] → has_row name rows ≡ false
flag_new name r rows h = repeated (has_row name rows) _ h

pub option_new : (name value : Text) (r : Bool) (rows : List Row) → use_fault false (chosen name r false) (value ∷ []) rows ≡ [] → has_row name rows ≡ false
option_new name value r rows h = repeated (has_row name rows) _ h

pub word_new : (word : Text) (rows : List Row) → use_fault false placed (word ∷ []) rows ≡ [] → has_row position rows ≡ false
word_new word rows h = repeated (has_row position rows) _ h

-- an option without its value
pub option_starved : (name : Text) (r : Bool) (rows : List Row) → use_fault false (chosen name r false) [] rows ≡ kind.InvalidValue ∷ []
option_starved name r rows = refl
