-- Words that are read in two ways give the same in both.
use Rattle.std.proofs.Common.{◌≡◌, ◌∙◌, refl, sym, ap, ap₂, List, [], ◌∷◌, map}
use Rattle.clap.specs.Walk.{Row as ClapRow}
use Rattle.verb_table.specs.Table.{IsCalled, Row, Text}
use Rattle.sil_words.specs.Language.{Given, IsReading, OneAsk, Reading, ask_of, value_of}
use Rattle.sil_words.specs.Splitting.{givens_of}
use Rattle.sil_words.proofs.Rows.{row_for}
use Rattle.sil_words.proofs.Contract.{walks_split}
use Rattle.sil_words.proofs.Accepts.{reading_splits}
use Rattle.sil_words.proofs.Asked.{ask_is, ask_told}
use Rattle.sil_words.proofs.Answering.{same_call}
use Rattle.sil_words.proofs.Sound.{sound}

same_givens : (gs hs : List Given) → map row_for gs ≡ map row_for hs → gs ≡ hs
same_givens [] [] e = refl
same_givens [] (h ∷ hs) e = cc
same_givens (g ∷ gs) [] e = cc
same_givens (g ∷ gs) (h ∷ hs) e =
    let row : row_for g ≡ row_for h = cc in
    let rest : map row_for gs ≡ map row_for hs = cc in
    let name = ap (λ (r : ClapRow). r.id) row in
    let values = ap (λ (r : ClapRow). r.values) row in
    let value : g.value ≡ h.value = cc in
    ap₂ (λ x xs. x ∷ xs) (λ i. record { name = name i; value = value i }) (same_givens gs hs rest)

same_ask : (row : Row) → IsCalled row → (words : List Text) (r q : Reading) → IsReading row words r → IsReading row words q → ask_of row r ≡ ask_of row q
same_ask row called words r q h k =
    let table = (sound row called).table in
    let one = walks_split row.choices table words r (reading_splits row table words r h) in
    let two = walks_split row.choices table words q (reading_splits row table words q k) in
    ask_is row called words r h ∙ ap (λ gs. ask_told row (value_of gs)) (same_givens (givens_of r) (givens_of q) (sym one.ends ∙ two.ends))
    ∙ sym (ask_is row called words q k)

pub one_ask : OneAsk
one_ask words row other r q c d =
    let s = same_call words d.word d.rest other row r d.split d.verb c in
    ap (λ u. ask_of u r) s.0 ∙ same_ask other (d.word, d.verb) d.rest r q s.1 d.reading
