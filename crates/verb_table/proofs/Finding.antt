-- Rows and values as the program looks through them.
use Rattle.std.proofs.Common.{◌≡◌, refl, ℕ, ◌+◌, ◌<◌, cond, List, [], ◌∷◌, Option, Some, map, find, get_or, drop, length, add-one}
use Rattle.std.specs.List.{list_any}
use Rattle.std.specs.Borrow.{Bor}
use Rattle.std.specs.Str.{bytes_eq}
use Rattle.std.proofs.Math.Seq.{drop-cons}
use Rattle.verb_table.specs.Rows.{seen_row}
use Rattle.verb_table.specs.Table.{Row, Text}
use Rattle.verb_table.specs.declared.rows.VerbRow.{VerbRow}

-- the first row of this word from the i-th on
abbrev pub row_from : List VerbRow → Text → ℕ → Option Row
row_from rows word i = find (λ row. bytes_eq row.word word) (map seen_row (drop i rows))

pub next_row : (rows : List VerbRow) (word : Text) (i : ℕ) (d : VerbRow) → i < length rows
    → (let row = seen_row (get_or rows i d) in row_from rows word i ≡ cond (bytes_eq row.word word) (Some row) (row_from rows word (i + 1)))
next_row rows word i d h = rw (add-one, drop-cons rows i d) refl

pub any_seen : (value : Text) (values : List (Bor Text))
    → list_any (λ v. bytes_eq v.now value) values ≡ list_any (λ v. bytes_eq v value) (map (λ v. v.now) values)
any_seen value [] = refl
any_seen value (v ∷ values) = rw (any_seen value values) refl
