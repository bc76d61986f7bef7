-- The places that are marked, closed if their marks are: their columns hold the weights between them.
use Rattle.std.proofs.Common.{◌≡◌, ℕ, ◌*◌, ◌^◌, ◌<◌, ◌≤◌, inl, inr, List, length, get_or, refl, ap, ◌∙◌, arith}
use Rattle.std.specs.Prelude.{Bool, true, false, if◌then◌else◌, ◌==◌}
use Rattle.std.proofs.lemmas.Bool.{cases_lt, eq-eqb, eqb-true}
use Rattle.std.proofs.lemmas.List.Sums.{get_or-le-sum_by}
use Rattle.sil_fraction.specs.Sum.{sum_below}
use Rattle.sil_fraction.proofs.Sums.{sum-same}
use Rattle.vector_laws.proofs.Masses.{sum-zeros}
use Rattle.sil_model.specs.Sizes.{states_of}
use Rattle.sil_model.specs.declared.parts.Subsystem.{Subsystem}
use Rattle.product_chain.specs.declared.column.Entry.{Entry}
use Rattle.product_chain.specs.Columns.{part, given}
use Rattle.product_chain.specs.Held.{HoldWeights}
use Rattle.product_chain.specs.Weights.{weight_of}
use Rattle.place_chain.specs.Marks.{is_marked, IsClosed, IsPassedOn}
use Rattle.place_chain.specs.Places.{ArePlaces, AreCompact, compacted}
use Rattle.place_chain.specs.PlaceChain.{IsElsewhere, AreInOrder, AreClosed, AreBetween}
use Rattle.place_chain.proofs.Places.{sum-places, term-le}
use Rattle.place_chain.proofs.Listed.{unmarked}
use Rattle.place_chain.proofs.Columns.{given-none, spread_number, given-compacted, length-compacted, compacted-all}

module _ (us : List Subsystem) (hours beats : ℕ) (marks : List Bool) (places ranks all_starts : List ℕ) (all : List Entry) (starts : List ℕ) (entries : List Entry)
    (held : HoldWeights us hours beats all_starts all) (long : length marks ≡ states_of us) (is : ArePlaces marks places ranks)
    (compact : AreCompact marks ranks places all_starts all starts entries)
    (few : length entries ≤ length all) where
  abbrev n : ℕ
  n = states_of us

  abbrev m : ℕ
  m = length places

  abbrev p : ℕ → ℕ
  p k = get_or places k 0

  abbrev w : ℕ → ℕ → ℕ
  w = weight_of us hours beats

  abbrev column : ℕ → List Entry
  column j = part all_starts all j

  below : (k : ℕ) → k < m → p k < n
  below k h = omega (arith, is.below k h, long)

  elsewhere-unmarked : (j : ℕ) → j < n → IsElsewhere places j → is_marked marks j ≡ false
  elsewhere-unmarked j h other = unmarked marks places ranks is j (omega (arith, long)) other

  -- the rank of a place
  rank-of : (l : ℕ) → l < m → get_or ranks (p l) 0 ≡ l
  rank-of l h =
      let r : ℕ = get_or ranks (p l) 0 in
      let inside : p l < length marks = is.below l h in
      let small : r < m = is.ranked (p l) inside (is.marked l h) in
      let back : p r ≡ p l = is.back (p l) inside (is.marked l h) in
      elim (cases_lt r l) [
        | inl a ↦ absurd (omega (arith, is.rising r l a h, back))
        | inr a ↦ elim (cases_lt l r) [
          | inl b ↦ absurd (omega (arith, is.rising l r b small, back))
          | inr b ↦ omega arith
        ]
      ]

  abbrev one_if : Bool → ℕ
  one_if b = if b then 1 else 0

  -- marks that are closed give places that are
  pub are_closed : IsClosed (length marks) all_starts all marks → AreClosed us hours beats places
  are_closed closed k j h inside other =
      let u : ℕ → ℕ = λ i. one_if (is_marked marks i) in
      let none : given u (column j) ≡ 0 =
      given-none marks u (λ i e. ap one_if e) (column j) (closed.closed j (omega (arith, long)) (elsewhere-unmarked j inside other)) in
      let all_of : given u (column j) ≡ sum_below n (λ i. u i * w i j) = held.weights u j inside in
      let one : u (p k) ≡ 1 = ap one_if (is.marked k h) in
      let mine : u (p k) * w (p k) j ≤ sum_below n (λ i. u i * w i j) = term-le n (λ i. u i * w i j) (p k) (below k h) in
      let whole_one : 1 * w (p k) j ≤ sum_below n (λ i. u i * w i j) = rw one at mine in
      omega (arith, whole_one, none, all_of)

  pub are_in_order : AreInOrder us places
  are_in_order = record { rising = is.rising; below = below; few = omega (arith, is.few, long) }

  -- what a column over the places is given
  given-between : (v : ℕ → ℕ) (k : ℕ) → k < m → given v (part starts entries k) ≡ sum_below m (λ l. v l * w (p l) (p k))
  given-between v k h =
      ap (given v) (compact.columns k h)
      ∙ given-compacted marks ranks v (column (p k))
      ∙ held.weights (spread_number marks ranks v) (p k) (below k h)
      ∙ sum-places p (λ i. spread_number marks ranks v i * w i (p k)) n m is.rising below (λ i a o. gone i (elsewhere-unmarked i a o))
      ∙ sum-same m _ _ (λ l a. ap (λ x. x * w (p l) (p k)) (here l a))
    where
      gone : (i : ℕ) → is_marked marks i ≡ false → spread_number marks ranks v i * w i (p k) ≡ 0
      gone i e = ap (λ b. (if b then v (get_or ranks i 0) else 0) * w i (p k)) e ∙ omega arith

      here : (l : ℕ) → l < m → spread_number marks ranks v (p l) ≡ v l
      here l a = ap (λ b. if b then v (get_or ranks (p l) 0) else 0) (is.marked l a) ∙ ap v (rank-of l a)

  abbrev column_of : ℕ → List Entry
  column_of k = compacted marks ranks (column (p k))

  pub are_between : AreBetween us hours beats places starts entries
  are_between = record {
    columns = record {
      parts = compact.parts;
      few = λ k h. rw (compact.columns k h) (omega (arith, length-compacted marks ranks (column (p k)), held.columns.few (p k) (below k h)));
      sources = λ k h. rw (compact.columns k h) (compacted-all marks ranks (λ e. e.source < n) (λ e. e.source < m)
          (λ e b a. is.ranked e.source (omega (arith, a, long)) b) (column (p k)) (held.columns.sources (p k) (below k h)));
      weights = λ k h. rw (compact.columns k h) (compacted-all marks ranks (λ e. e.weight ≤ 2 ^ 48) (λ e. e.weight ≤ 2 ^ 48)
          (λ e b a. a) (column (p k)) (held.columns.weights (p k) (below k h)));
    };
    weights = given-between;
    number = omega (arith, few, held.number);
  }

-- what weights pass on, the entries of the columns pass on
module _ (us : List Subsystem) (hours beats : ℕ) (starts : List ℕ) (entries : List Entry) (held : HoldWeights us hours beats starts entries) (P : ℕ → Bool)
    (on : (i j : ℕ) → i < states_of us → j < states_of us → (weight_of us hours beats i j ≡ 0 → ⊥) → P i ≡ true → P j ≡ true) where
  some-weight : (j : ℕ) → j < states_of us → (k : ℕ) (d : Entry) → k < length (part starts entries j)
      → weight_of us hours beats (get_or (part starts entries j) k d).source j ≡ 0 → ⊥
  some-weight j h k d a none =
      let x : Entry = get_or (part starts entries j) k d in
      let u : ℕ → ℕ = λ i. if i == x.source then 1 else 0 in
      let one : u x.source ≡ 1 = rw (eq-eqb x.source x.source refl) refl in
      let mine : x.weight * u x.source ≤ given u (part starts entries j) =
      get_or-le-sum_by (λ (e : Entry). e.weight * u e.source) (part starts entries j) k d a in
      let here : x.weight * 1 ≤ given u (part starts entries j) = rw one at mine in
      let go : (i : ℕ) (b : Bool) → (i == x.source) ≡ b → (if b then 1 else 0) * weight_of us hours beats i j ≡ 0 = λ i b. each x.source i j none b in
      let nothing : sum_below (states_of us) (λ i. u i * weight_of us hours beats i j) ≡ 0 =
      sum-zeros (states_of us) (λ i. u i * weight_of us hours beats i j) (λ i b. go i (i == x.source) refl) in
      absurd (omega (arith, here, held.positive j h k d a, held.weights u j h, nothing))
    where
      each : (t i j : ℕ) → weight_of us hours beats t j ≡ 0 → (b : Bool) → (i == t) ≡ b → (if b then 1 else 0) * weight_of us hours beats i j ≡ 0
      each t i j none true e = rw (eqb-true i t e, none) (omega arith)
      each t i j none false e = omega arith

  pub passed-on : IsPassedOn (states_of us) starts entries P
  passed-on j h k d a e = on (get_or (part starts entries j) k d).source j (held.columns.sources j h k d a) h (some-weight j h k d a) e
