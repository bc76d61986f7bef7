-- The columns of the first places, one after another.
use Rattle.std.proofs.Common.{◌≡◌, ℕ, zero, suc, ◌+◌, ◌-◌, ◌<◌, ◌≤◌, inl, inr, List, [], ◌∷◌, ◌++◌, length, get_or, take, refl, sym, ap, ◌∙◌, arith, length-append, append_assoc}
use Rattle.std.specs.Prelude.{Bool, if◌then◌else◌}
use Rattle.std.proofs.lemmas.Bool.{cases_lt}
use Rattle.std.proofs.lemmas.List.{take_more, get_or_append_left}
use Rattle.std.proofs.Math.Seq.{get_or-append_seam}
use Rattle.product_chain.specs.declared.column.Entry.{Entry}
use Rattle.product_chain.specs.Columns.{AreParts, part}
use Rattle.product_chain.proofs.Parts.{slice-before, slice-end}
use Rattle.place_chain.specs.Marks.{is_marked}
use Rattle.place_chain.specs.Places.{compacted, AreCompact}

-- starts do not fall
pub starts-le : {A : Type 0} (n : ℕ) (starts : List ℕ) (xs : List A) → AreParts n starts xs → (a b : ℕ) → a ≤ b → b ≤ n → get_or starts a 0 ≤ get_or starts b 0
starts-le n starts xs is a b h q = go (b - a) b (omega arith) q
  where
    go : (d b : ℕ) → a + d ≡ b → b ≤ n → get_or starts a 0 ≤ get_or starts b 0
    go zero b e q = let f : b ≡ a = omega arith in rw f (omega arith)
    go (suc d) b e q =
        let f : a + d + 1 ≡ b = omega arith in
        rw (← f) (omega (arith, go d (a + d) refl (omega arith), is.rising (a + d) (omega arith)))

-- one entry more
pub append-none : {A : Type 0} (xs : List A) → xs ++ [] ≡ xs
append-none [] = refl
append-none (x ∷ xs) = ap (λ ys. x ∷ ys) (append-none xs)

module _ (marks : List Bool) (ranks : List ℕ) where
  abbrev pub here_of : Entry → List Entry
  here_of e = if is_marked marks e.source then record { source = get_or ranks e.source 0; weight = e.weight } ∷ [] else []

  compacted-append : (xs ys : List Entry) → compacted marks ranks (xs ++ ys) ≡ compacted marks ranks xs ++ compacted marks ranks ys
  compacted-append [] ys = refl
  compacted-append (x ∷ xs) ys =
      rw (compacted-append xs ys) (sym (append_assoc (here_of x) (compacted marks ranks xs) (compacted marks ranks ys)))

  pub compacted-turn : (es : List Entry) (i : ℕ) (d : Entry) (old now new : List Entry) → i < length es
      → now ≡ old ++ compacted marks ranks (take i es) → new ≡ now ++ here_of (get_or es i d) → new ≡ old ++ compacted marks ranks (take (i + 1) es)
  compacted-turn es i d old now new h e f =
      rw (f, e, take_more es i d h, compacted-append (take i es) (get_or es i d ∷ []), append-none (here_of (get_or es i d)))
      (append_assoc old (compacted marks ranks (take i es)) (here_of (get_or es i d)))

-- the columns of the first j places
module _ (marks : List Bool) (ranks places all_starts : List ℕ) (all : List Entry) where
  pub record AreBegun (j : ℕ) (starts : List ℕ) (entries : List Entry) : Type 0 where
    pub number : length starts ≡ j + 1
    pub first : get_or starts 0 0 ≡ 0
    pub last : get_or starts j 0 ≡ length entries
    pub within : (k : ℕ) → k ≤ j → get_or starts k 0 ≤ length entries
    pub rising : (k : ℕ) → k < j → get_or starts k 0 ≤ get_or starts (k + 1) 0
    pub columns : (k : ℕ) → k < j → part starts entries k ≡ compacted marks ranks (part all_starts all (get_or places k 0))

  pub begun-none : (starts : List ℕ) (entries : List Entry) → starts ≡ 0 ∷ [] → entries ≡ [] → AreBegun 0 starts entries
  begun-none starts entries e f = record {
    number = rw e (omega arith);
    first = rw e refl;
    last = rw (e, f) refl;
    within = λ k h. let z : k ≡ 0 = omega arith in rw (z, e) (omega arith);
    rising = λ k h. absurd (omega arith);
    columns = λ k h. absurd (omega arith);
  }

  module _ (j len : ℕ) (starts more : List ℕ) (entries now : List Entry) (is : AreBegun j starts entries)
      (grown : now ≡ entries ++ compacted marks ranks (part all_starts all (get_or places j 0))) (added : more ≡ starts ++ len ∷ []) (long : len ≡ length now) where
    abbrev column : List Entry
    column = compacted marks ranks (part all_starts all (get_or places j 0))

    longer : length entries ≤ length now
    longer = omega (arith, ap length grown, length-append entries column)

    old-at : (k : ℕ) → k ≤ j → get_or more k 0 ≡ get_or starts k 0
    old-at k h = rw added (get_or_append_left starts (len ∷ []) 0 k (omega (arith, is.number)))

    new-at : get_or more (j + 1) 0 ≡ length now
    new-at = rw (added, ← is.number) (get_or-append_seam starts len [] 0 ∙ long)

    pub begun-next : AreBegun (j + 1) more now
    begun-next = record {
      number = rw added (omega (arith, length-append starts (len ∷ []), is.number));
      first = old-at 0 (omega arith) ∙ is.first;
      last = new-at;
      within = λ k h. elim (cases_lt k (j + 1)) [
        | inl p ↦ omega (arith, old-at k (omega arith), is.within k (omega arith), longer)
        | inr p ↦ let e : k ≡ j + 1 = omega arith in rw e (omega (arith, new-at))
      ];
      rising = λ k h. elim (cases_lt k j) [
        | inl p ↦ omega (arith, old-at k (omega arith), old-at (k + 1) (omega arith), is.rising k p)
        | inr p ↦ let e : k ≡ j = omega arith in rw e (omega (arith, old-at j (omega arith), new-at, is.last, longer))
      ];
      columns = λ k h. elim (cases_lt k j) [
        | inl p ↦
            rw (old-at k (omega arith), old-at (k + 1) (omega arith), grown)
            (slice-before entries column (get_or starts k 0) (get_or starts (k + 1) 0) (is.rising k p) (is.within (k + 1) (omega arith)) ∙ is.columns k p)
        | inr p ↦ let e : k ≡ j = omega arith in
            rw (e, old-at j (omega arith), new-at, grown) (slice-end entries column (get_or starts j 0) (length (entries ++ column)) is.last refl)
      ];
    }

  pub begun-all : (j : ℕ) (starts : List ℕ) (entries : List Entry) → j ≡ length places → AreBegun j starts entries
      → AreCompact marks ranks places all_starts all starts entries
  begun-all j starts entries e is = record {
    parts = record {
      number = omega (arith, is.number, e);
      first = is.first;
      rising = λ k h. is.rising k (omega arith);
      last = rw e at is.last;
    };
    columns = λ k h. is.columns k (omega arith);
  }
