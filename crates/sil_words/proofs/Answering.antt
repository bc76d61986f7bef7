-- What is answered to the words after a verb, from what the matches tell.
use Rattle.std.proofs.Common.{◌≡◌, ◌∙◌, sym, ap, ap₂, subst, ◌-◌, ◌≤◌, true, false, List, [], ◌∷◌, Some, Result, Ok, Err}
use Rattle.std.proofs.Common.{IfErr, IsErrAnd, String, string_bytes, map, get_or, length, take, drop, take_all, arith}
use Rattle.std.specs.Option.{option_map_or}
use Rattle.clap.specs.declared.parser.matches.ArgMatches.{ArgMatches}
use Rattle.sil_words.specs.declared.ask.Ask.{Ask}
use Rattle.verb_table.specs.Table.{IsCalled, Row, Text, row_named}
use Rattle.sil_words.specs.Language.{Asks, AsksAfter, IsCall, IsReading, Reading, ask_of, is_positional, value_of}
use Rattle.sil_words.specs.Splitting.{TellsOf, are_taken, givens_of, position, told_by}
use Rattle.sil_words.proofs.Accepts.{reading_splits, reading_word, split_reads}
use Rattle.sil_words.proofs.Asked.{ask_is, ask_told}
use Rattle.sil_words.proofs.Sound.{reading_taken, sound}

module _ (row : Row) (called : IsCalled row) (words : List Text) (m : ArgMatches) (t : TellsOf row.choices words m) where
  tells : (r : Reading) → IsReading row words r → told_by m ≡ value_of (givens_of r)
  tells r h = λ j name. t.1 r (reading_splits row (sound row called).table words r h) name j

  -- ---- refusals

  pub value_refused : are_taken row.choices (told_by m) ≡ false → (r : Reading) → IsReading row words r → ⊥
  value_refused bad r h =
      let good : are_taken row.choices (told_by m) ≡ true = ap (are_taken row.choices) (tells r h) ∙ reading_taken row (sound row called) words r h in
      cc

  pub word_refused : option_map_or (is_positional row.positional) (told_by m position) false ≡ false → (r : Reading) → IsReading row words r → ⊥
  word_refused bad r h =
      let good : option_map_or (is_positional row.positional) (told_by m position) false ≡ true =
      ap (λ told. option_map_or (is_positional row.positional) (told position) false) (tells r h) ∙ reading_word row (sound row called).table words r h in
      cc

  -- ---- the answer

  pub answered : are_taken row.choices (told_by m) ≡ true → option_map_or (is_positional row.positional) (told_by m position) false ≡ true → (a : Ask)
      → a ≡ ask_told row (told_by m) → AsksAfter row words a
  answered taken w a is =
      let r = t.0.0 in
      let told : told_by m ≡ value_of (givens_of r) = λ j name. t.1 r t.0.1 name j in
      let able = sound row called in
      let values = ap (are_taken row.choices) (sym told) ∙ taken in
      let word_ok = ap (λ given. option_map_or (is_positional row.positional) (given position) false) (sym told) ∙ w in
      ((r, split_reads row able.table words r able.dash t.0.1 values word_ok), λ q k. is ∙ ap (ask_told row) (tells q k) ∙ sym (ask_is row called words q k))

-- ---- with the verb

-- words whose first is this word are called by no other row
pub same_call : (words : List Text) (word : Text) (rest : List Text) (row other : Row) (r : Reading) → words ≡ word ∷ rest → row_named word ≡ Some row
    → IsCall words other r
    → (other ≡ row) × IsReading row rest r
same_call words word rest row other r e named c =
    let both : c.word ∷ c.rest ≡ word ∷ rest = sym c.split ∙ e in
    let word_is : c.word ≡ word = cc in
    let rest_is : c.rest ≡ rest = cc in
    let found : Some other ≡ Some row = sym c.verb ∙ ap row_named word_is ∙ named in
    let same : other ≡ row = cc in
    (same, subst (λ (u : Row). IsReading u rest r) same (subst (λ (ws : List Text). IsReading other ws r) rest_is c.reading))

pub called : (words : List Text) (word : Text) (rest : List Text) (row : Row) → words ≡ word ∷ rest → row_named word ≡ Some row → (a : Ask)
    → AsksAfter row rest a → Asks words a
called words word rest row e named a h = (
  (row, h.0.0, record { word = word; rest = rest; split = e; verb = named; reading = h.0.1 }),
  λ other r c.
      let s = same_call words word rest row other r e named c in
      h.1 r s.1 ∙ ap (λ u. ask_of u r) (sym s.0),
)

pub each_err : {X E : Type 0} (r : Result X E) (Q : E → Type 0) → ((e : E) → Q e) → IfErr r Q
each_err (Ok x) Q h = tt
each_err (Err e) Q h = h e

pub same_err : {X E : Type 0} (r : Result X E) (e : E) (Q : E → Type 0) → IsErrAnd r (λ x. x ≡ e) → Q e → IfErr r Q
same_err (Ok x) e Q h q = tt
same_err (Err x) e Q h q = subst Q (sym h) q

-- the first of the words, and the rest
pub first_and_rest : {Z : Type 0} (words : List (String Z)) (x : String Z) → 1 ≤ length words → x ≡ get_or words 0 x
    → map string_bytes words ≡ string_bytes x ∷ map string_bytes (take (length words - 1) (drop 1 words))
first_and_rest [] x l e = absurd (omega arith)
first_and_rest (w ∷ words) x l e = ap₂ (λ a more. string_bytes a ∷ map string_bytes more) (sym e) (sym (take_all (length (w ∷ words) - 1) words (omega arith)))

pub called_first : {Z : Type 0} (row : Row) (words : List (String Z)) (x : String Z) → 1 ≤ length words → x ≡ get_or words 0 x
    → row_named (string_bytes x) ≡ Some row
    → (a : Ask) → AsksAfter row (map string_bytes (take (length words - 1) (drop 1 words))) a → Asks (map string_bytes words) a
called_first row words x l e named a h =
    called (map string_bytes words) (string_bytes x) (map string_bytes (take (length words - 1) (drop 1 words))) row (first_and_rest words x l e) named a h
