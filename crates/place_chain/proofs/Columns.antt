-- Columns over the ranks of marked numbers: what they are given, how long they are, what their entries ask for.
use Rattle.std.proofs.Common.{◌≡◌, ℕ, ◌*◌, ◌≤◌, List, [], ◌∷◌, length, get_or, refl, ◌∙◌, arith, length-append}
use Rattle.std.specs.Prelude.{Bool, true, false, All, if◌then◌else◌}
use Rattle.std.proofs.lemmas.List.Elements.{All-append, All-cons, All-nil, All-head, All-tail}
use Rattle.std.proofs.lemmas.List.Sums.{sum_by-cons, sum_by-append}
use Rattle.product_chain.specs.declared.column.Entry.{Entry}
use Rattle.product_chain.specs.Columns.{given}
use Rattle.place_chain.specs.Marks.{is_marked}
use Rattle.place_chain.specs.Places.{compacted}

-- entries of sources that are not marked are given nothing by what is nothing there
pub given-none : (marks : List Bool) (u : ℕ → ℕ) → ((i : ℕ) → is_marked marks i ≡ false → u i ≡ 0) → (es : List Entry)
    → All (λ e. is_marked marks e.source ≡ false) es → given u es ≡ 0
given-none marks u none [] all = refl
given-none marks u none (e ∷ es) all =
    let here : u e.source ≡ 0 = none e.source (All-head (λ (e : Entry). is_marked marks e.source ≡ false) e es all) in
    sum_by-cons (λ (e : Entry). e.weight * u e.source) e es
    ∙ rw here (omega (arith, given-none marks u none es (All-tail (λ (e : Entry). is_marked marks e.source ≡ false) e es all)))

module _ (marks : List Bool) (ranks : List ℕ) where
  abbrev here_of : Bool → Entry → List Entry
  here_of b e = if b then record { source = get_or ranks e.source 0; weight = e.weight } ∷ [] else []

  -- a vector over the ranks, at the marked numbers
  abbrev pub spread_number : (ℕ → ℕ) → ℕ → ℕ
  spread_number v i = if is_marked marks i then v (get_or ranks i 0) else 0

  pub given-compacted : (v : ℕ → ℕ) (es : List Entry) → given v (compacted marks ranks es) ≡ given (spread_number v) es
  given-compacted v [] = refl
  given-compacted v (e ∷ es) =
      sum_by-append (λ (e : Entry). e.weight * v e.source) (here_of (is_marked marks e.source) e) (compacted marks ranks es)
      ∙ cc (go (is_marked marks e.source), given-compacted v es, sum_by-cons (λ (e : Entry). e.weight * spread_number v e.source) e es)
    where
      go : (b : Bool) → given v (here_of b e) ≡ e.weight * (if b then v (get_or ranks e.source 0) else 0)
      go true = omega arith
      go false = omega arith

  pub length-compacted : (es : List Entry) → length (compacted marks ranks es) ≤ length es
  length-compacted [] = omega arith
  length-compacted (e ∷ es) = omega (arith, length-append (here_of (is_marked marks e.source) e) (compacted marks ranks es), go (is_marked marks e.source), length-compacted es)
    where
      go : (b : Bool) → length (here_of b e) ≤ 1
      go true = omega arith
      go false = omega arith

  -- what the entries of marked sources keep
  module _ (P Q : Entry → Type 0) (keeps : (e : Entry) → is_marked marks e.source ≡ true → P e → Q (record { source = get_or ranks e.source 0; weight = e.weight })) where
    pub compacted-all : (es : List Entry) → All P es → All Q (compacted marks ranks es)
    compacted-all [] all = All-nil Q
    compacted-all (e ∷ es) all =
        All-append Q (here_of (is_marked marks e.source) e) (compacted marks ranks es) (go (is_marked marks e.source) refl)
        (compacted-all es (All-tail P e es all))
      where
        go : (b : Bool) → is_marked marks e.source ≡ b → All Q (here_of b e)
        go true h = All-cons Q (record { source = get_or ranks e.source 0; weight = e.weight }) [] (keeps e h (All-head P e es all)) (All-nil Q)
        go false h = All-nil Q
