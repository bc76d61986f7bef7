-- Parts that lie together, made one after another.
use Rattle.std.proofs.Common.{◌≡◌, ◌≢◌, ℕ, zero, suc, ◌+◌, ◌-◌, ◌<◌, ◌≤◌, inl, inr, List, [], ◌∷◌, ◌++◌, length, get_or, set, take, drop, refl, ap, ◌∙◌, arith, length-append, length-take, append_assoc, get_or-set_same, get_or-set_other, length-set, get_or-take, get_or-drop}
use Rattle.std.specs.Prelude.{All, slice_range}
use Rattle.std.specs.List.Sorted.{IsNonDecreasingBy}
use Rattle.std.proofs.lemmas.Bool.{cases_lt}
use Rattle.std.proofs.lemmas.List.{get_or_append_left, length-drop}
use Rattle.std.proofs.Math.Seq.{get_or-append_seam}
use Rattle.product_chain.specs.declared.moves.Move.{Move}
use Rattle.product_chain.specs.declared.moves.TickRate.{TickRate}
use Rattle.product_chain.specs.declared.column.Entry.{Entry}
use Rattle.product_chain.specs.Columns.{AreParts, part, entries_of, kept}

-- a part of a list that has grown
take-before : {A : Type 0} (xs ys : List A) (a n : ℕ) → a + n ≤ length xs → take n (drop a (xs ++ ys)) ≡ take n (drop a xs)
take-before xs ys a zero h = refl
take-before [] ys a (suc n) h = absurd (omega arith)
take-before (x ∷ xs) ys zero (suc n) h = ap (λ zs. x ∷ zs) (take-before xs ys 0 n (omega arith))
take-before (x ∷ xs) ys (suc a) (suc n) h = take-before xs ys a (suc n) (omega arith)

pub slice-before : {A : Type 0} (xs ys : List A) (a b : ℕ) → a ≤ b → b ≤ length xs → slice_range (xs ++ ys) a b ≡ slice_range xs a b
slice-before xs ys a b h k = take-before xs ys a (b - a) (omega arith)

take-end : {A : Type 0} (xs ys : List A) (n : ℕ) → n ≡ length ys → take n (drop (length xs) (xs ++ ys)) ≡ ys
take-end [] [] n e = rw e refl
take-end [] (y ∷ ys) n e = rw e (ap (λ zs. y ∷ zs) (take-end [] ys (length ys) refl))
take-end (x ∷ xs) ys n e = take-end xs ys n e

pub slice-end : {A : Type 0} (xs ys : List A) (a b : ℕ) → a ≡ length xs → b ≡ length (xs ++ ys) → slice_range (xs ++ ys) a b ≡ ys
slice-end xs ys a b e f = rw e (take-end xs ys (b - length xs) (omega (arith, length-append xs ys)))

pub length-slice : {A : Type 0} (xs : List A) (a b : ℕ) → a ≤ b → b ≤ length xs → length (slice_range xs a b) ≡ b - a
length-slice xs a b h k = length-take (b - a) (drop a xs) ∙ omega (arith, length-drop a xs)

-- an element of a part
pub slice-at : {A : Type 0} (xs : List A) (a b k : ℕ) (d : A) → k < b - a → get_or (slice_range xs a b) k d ≡ get_or xs (a + k) d
slice-at xs a b k d h = get_or-take (b - a) (drop a xs) k d h ∙ get_or-drop a xs k d

pub All-slice : {A : Type 0} (P : A → Type 0) (xs : List A) (a b : ℕ) → a ≤ b → b ≤ length xs → All P xs → All P (slice_range xs a b)
All-slice P xs a b h k all i d p =
    let q : i < b - a = omega (arith, length-slice xs a b h k) in
    rw (slice-at xs a b i d q) (all (a + i) d (omega arith))

-- the starts of the first j targets
pub record AreStarts (moves : List Move) (j end : ℕ) (starts : List ℕ) : Type 0 where
  pub number : length starts ≡ j + 1
  pub first : get_or starts 0 0 ≡ 0
  pub last : get_or starts j 0 ≡ end
  pub within : end ≤ length moves
  pub rising : (k : ℕ) → k < j → get_or starts k 0 ≤ get_or starts (k + 1) 0
  pub targets : (k : ℕ) → k < j → All (λ m. m.target ≡ k) (part starts moves k)
  pub left : (k : ℕ) (d : Move) → end ≤ k → k < length moves → j ≤ (get_or moves k d).target

pub starts-none : (moves : List Move) (starts : List ℕ) → starts ≡ 0 ∷ [] → AreStarts moves 0 0 starts
starts-none moves starts e = record {
  number = rw e (omega arith);
  first = rw e refl;
  last = rw e refl;
  within = omega arith;
  rising = λ k h. absurd (omega arith);
  targets = λ k h. absurd (omega arith);
  left = λ k d h p. omega arith;
}

module _ (moves : List Move) (j end next : ℕ) (starts more : List ℕ) (is : AreStarts moves j end starts) (added : more ≡ starts ++ next ∷ [])
    (order : IsNonDecreasingBy (λ m. m.target) moves)
    (rising : end ≤ next) (within : next ≤ length moves) (same : All (λ m. m.target ≡ j) (slice_range moves end next)) (other : (d : Move)
    → next < length moves → (get_or moves next d).target ≡ j → ⊥) where
  old-start : (k : ℕ) → k ≤ j → get_or more k 0 ≡ get_or starts k 0
  old-start k h = rw added (get_or_append_left starts (next ∷ []) 0 k (omega (arith, is.number)))

  new-start : get_or more (j + 1) 0 ≡ next
  new-start = rw (added, ← is.number) (get_or-append_seam starts next [] 0)

  pub starts-next : AreStarts moves (j + 1) next more
  starts-next = record {
    number = rw added (omega (arith, length-append starts (next ∷ []), is.number));
    first = old-start 0 (omega arith) ∙ is.first;
    last = new-start;
    within = within;
    rising = λ k h. elim (cases_lt k j) [
      | inl p ↦ omega (arith, old-start k (omega arith), old-start (k + 1) (omega arith), is.rising k p)
      | inr p ↦ let e : k ≡ j = omega arith in rw e (omega (arith, old-start j (omega arith), new-start, is.last))
    ];
    targets = λ k h. elim (cases_lt k j) [
      | inl p ↦ rw (old-start k (omega arith), old-start (k + 1) (omega arith)) (is.targets k p)
      | inr p ↦ let e : k ≡ j = omega arith in rw (e, old-start j (omega arith), new-start, is.last) same
    ];
    left = λ k d h p.
        let here : j ≤ (get_or moves next d).target = is.left next d rising (omega arith) in
        let up : (get_or moves next d).target ≤ (get_or moves k d).target = order next k d h p in
        let apart : (get_or moves next d).target ≢ j = other d (omega arith) in
        omega (arith, here, up, apart);
  }

pub starts-all : (moves : List Move) (n end : ℕ) (starts : List ℕ) → AreStarts moves n end starts → All (λ m. m.target < n) moves → AreParts n starts moves
starts-all moves n end starts is below = record {
  number = is.number;
  first = is.first;
  rising = is.rising;
  last = elim (cases_lt end (length moves)) [
    | inl p ↦
        let d : Move = record { source = 0; target = 0; rate = 0 } in
        absurd (omega (arith, is.left end d (omega arith) p, below end d p))
    | inr p ↦ omega (arith, is.last, is.within)
  ];
}

-- the columns of the first j targets
pub record AreFilled (rates : List TickRate) (moves : List Move) (move_starts stays : List ℕ) (n j : ℕ) (starts : List ℕ) (entries : List Entry) : Type 0 where
  pub number : length starts ≡ n + 1
  pub first : get_or starts 0 0 ≡ 0
  pub last : get_or starts j 0 ≡ length entries
  pub within : (k : ℕ) → k ≤ j → get_or starts k 0 ≤ length entries
  pub rising : (k : ℕ) → k < j → get_or starts k 0 ≤ get_or starts (k + 1) 0
  pub columns : (k : ℕ) → k < j → part starts entries k ≡ entries_of rates (part move_starts moves k) ++ kept k (get_or stays k 0)

module _ (rates : List TickRate) (moves : List Move) (move_starts stays : List ℕ) (n : ℕ) where
  pub filled-none : (starts : List ℕ) (entries : List Entry) → length starts ≡ n + 1 → get_or starts 0 0 ≡ 0 → entries ≡ []
      → AreFilled rates moves move_starts stays n 0 starts entries
  filled-none starts entries number first none = record {
    number = number;
    first = first;
    last = rw none first;
    within = λ k h. let e : k ≡ 0 = omega arith in rw e (omega (arith, first));
    rising = λ k h. absurd (omega arith);
    columns = λ k h. absurd (omega arith);
  }

  module _ (j len : ℕ) (starts : List ℕ) (entries moved all : List Entry) (is : AreFilled rates moves move_starts stays n j starts entries) (inside : j < n)
      (first_part : moved ≡ entries ++ entries_of rates (part move_starts moves j)) (last_part : all ≡ moved ++ kept j (get_or stays j 0)) (long : len
      ≡ length all) where
    abbrev column : List Entry
    column = entries_of rates (part move_starts moves j) ++ kept j (get_or stays j 0)

    abbrev more : List ℕ
    more = set starts (j + 1) len

    all-is : all ≡ entries ++ column
    all-is = rw (last_part, first_part) (append_assoc entries _ _)

    grown : length entries ≤ length all
    grown = omega (arith, ap length all-is, length-append entries column)

    old-at : (k : ℕ) → k ≤ j → get_or more k 0 ≡ get_or starts k 0
    old-at k h = get_or-set_other starts (j + 1) k len 0 (λ e. absurd (omega arith))

    new-at : get_or more (j + 1) 0 ≡ length all
    new-at = get_or-set_same starts (j + 1) len 0 (omega (arith, is.number)) ∙ long

    pub filled-next : AreFilled rates moves move_starts stays n (j + 1) more all
    filled-next = record {
      number = length-set starts (j + 1) len ∙ is.number;
      first = old-at 0 (omega arith) ∙ is.first;
      last = new-at;
      within = λ k h. elim (cases_lt k (j + 1)) [
        | inl p ↦ omega (arith, old-at k (omega arith), is.within k (omega arith), grown)
        | inr p ↦ let e : k ≡ j + 1 = omega arith in rw e (omega (arith, new-at))
      ];
      rising = λ k h. elim (cases_lt k j) [
        | inl p ↦ omega (arith, old-at k (omega arith), old-at (k + 1) (omega arith), is.rising k p)
        | inr p ↦ let e : k ≡ j = omega arith in rw e (omega (arith, old-at j (omega arith), new-at, is.last, grown))
      ];
      columns = λ k h. elim (cases_lt k j) [
        | inl p ↦
            rw (old-at k (omega arith), old-at (k + 1) (omega arith), all-is)
            (slice-before entries column (get_or starts k 0) (get_or starts (k + 1) 0) (is.rising k p) (is.within (k + 1) (omega arith)) ∙ is.columns k p)
        | inr p ↦ let e : k ≡ j = omega arith in
            rw (e, old-at j (omega arith), new-at, all-is) (slice-end entries column (get_or starts j 0) (length (entries ++ column)) is.last refl)
      ];
    }

  pub filled-all : (starts : List ℕ) (entries : List Entry) → AreFilled rates moves move_starts stays n n starts entries → AreParts n starts entries
  filled-all starts entries is = record { number = is.number; first = is.first; rising = is.rising; last = is.last }

-- parts end within the list
pub parts-within : {A : Type 0} (n : ℕ) (starts : List ℕ) (xs : List A) → AreParts n starts xs → (j : ℕ) → j ≤ n → get_or starts j 0 ≤ length xs
parts-within n starts xs p j h = go (n - j) j (omega arith)
  where
    go : (m j : ℕ) → m + j ≡ n → get_or starts j 0 ≤ length xs
    go zero j e = let f : j ≡ n = omega arith in rw f (omega (arith, p.last))
    go (suc m) j e = omega (arith, p.rising j (omega arith), go m (j + 1) (omega arith))
