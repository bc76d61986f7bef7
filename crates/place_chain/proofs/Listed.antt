-- The places below a number, one number after another.
use Rattle.std.proofs.Common.{◌≡◌, ℕ, ◌+◌, ◌<◌, ◌≤◌, inl, inr, List, [], ◌∷◌, ◌++◌, length, get_or, set, refl, sym, ap, ◌∙◌, arith, length-append, get_or-set_same, get_or-set_other}
use Rattle.std.specs.Prelude.{Bool, true, false}
use Rattle.std.proofs.lemmas.Bool.{cases_lt}
use Rattle.std.proofs.lemmas.List.{get_or_append_left, get_or_past}
use Rattle.std.proofs.Math.Seq.{get_or-append_seam}
use Rattle.place_chain.specs.Marks.{is_marked}
use Rattle.place_chain.specs.Places.{ArePlaces}
use Rattle.place_chain.specs.PlaceChain.{IsElsewhere, IsWithin}

-- those of the first i numbers
pub record AreListed (marks : List Bool) (i : ℕ) (places ranks : List ℕ) : Type 0 where
  pub rising : (k l : ℕ) → k < l → l < length places → get_or places k 0 < get_or places l 0
  pub below : (k : ℕ) → k < length places → get_or places k 0 < i
  pub marked : (k : ℕ) → k < length places → is_marked marks (get_or places k 0) ≡ true
  pub few : length places ≤ i
  pub ranked : (j : ℕ) → j < i → is_marked marks j ≡ true → get_or ranks j 0 < length places
  pub back : (j : ℕ) → j < i → is_marked marks j ≡ true → get_or places (get_or ranks j 0) 0 ≡ j

pub listed-none : (marks : List Bool) (places ranks : List ℕ) → places ≡ [] → AreListed marks 0 places ranks
listed-none marks places ranks e = rw e (record {
  rising = λ k l a b. absurd (omega arith);
  below = λ k a. absurd (omega arith);
  marked = λ k a. absurd (omega arith);
  few = omega arith;
  ranked = λ j a. absurd (omega arith);
  back = λ j a. absurd (omega arith);
})

pub listed-all : (marks : List Bool) (n : ℕ) (places ranks : List ℕ) → n ≡ length marks → AreListed marks n places ranks → ArePlaces marks places ranks
listed-all marks n places ranks e is = record {
  rising = is.rising;
  below = λ k a. omega (arith, is.below k a, e);
  marked = is.marked;
  few = omega (arith, is.few, e);
  ranked = λ j a b. is.ranked j (omega arith) b;
  back = λ j a b. is.back j (omega arith) b;
}

module _ (marks : List Bool) (i rank : ℕ) (places ranks : List ℕ) (is : AreListed marks i places ranks) (inside : i < length ranks) (next : rank ≡ length places) where
  abbrev more : List ℕ
  more = set ranks i rank

  old-rank : (j : ℕ) → j < i → get_or more j 0 ≡ get_or ranks j 0
  old-rank j h = get_or-set_other ranks i j rank 0 (λ e. absurd (omega arith))

  -- one that is not marked
  pub listed-not : is_marked marks i ≡ false → AreListed marks (i + 1) places more
  listed-not unmarked = record {
    rising = is.rising;
    below = λ k a. omega (arith, is.below k a);
    marked = is.marked;
    few = omega (arith, is.few);
    ranked = λ j a b. elim (cases_lt j i) [
      | inl p ↦ rw (old-rank j p) (is.ranked j p b)
      | inr p ↦ let e : j ≡ i = omega arith in absurd (apart (sym unmarked ∙ ap (is_marked marks) (sym e) ∙ b))
    ];
    back = λ j a b. elim (cases_lt j i) [
      | inl p ↦ rw (old-rank j p) (is.back j p b)
      | inr p ↦ let e : j ≡ i = omega arith in absurd (apart (sym unmarked ∙ ap (is_marked marks) (sym e) ∙ b))
    ];
  }
    where
      apart : false ≡ true → ⊥
      apart e = cc

  -- one that is marked
  module _ (all : List ℕ) (added : all ≡ places ++ i ∷ []) (here : is_marked marks i ≡ true) where
    long : length all ≡ length places + 1
    long = rw added (omega (arith, length-append places (i ∷ [])))

    old-place : (k : ℕ) → k < length places → get_or all k 0 ≡ get_or places k 0
    old-place k h = rw added (get_or_append_left places (i ∷ []) 0 k h)

    new-place : (k : ℕ) → k ≡ length places → get_or all k 0 ≡ i
    new-place k e = rw (added, e) (get_or-append_seam places i [] 0)

    new-rank : get_or more i 0 ≡ length places
    new-rank = get_or-set_same ranks i rank 0 inside ∙ next

    pub listed-next : AreListed marks (i + 1) all more
    listed-next = record {
      rising = λ k l a b. elim (cases_lt l (length places)) [
        | inl p ↦ omega (arith, old-place k (omega arith), old-place l p, is.rising k l a p)
        | inr p ↦
            let e : l ≡ length places = omega (arith, long) in
            let q : k < length places = omega arith in
            omega (arith, old-place k q, new-place l e, is.below k q)
      ];
      below = λ k a. elim (cases_lt k (length places)) [
        | inl p ↦ omega (arith, old-place k p, is.below k p)
        | inr p ↦ omega (arith, new-place k (omega (arith, long)))
      ];
      marked = λ k a. elim (cases_lt k (length places)) [
        | inl p ↦ rw (old-place k p) (is.marked k p)
        | inr p ↦ rw (new-place k (omega (arith, long))) here
      ];
      few = omega (arith, long, is.few);
      ranked = λ j a b. elim (cases_lt j i) [
        | inl p ↦ omega (arith, old-rank j p, is.ranked j p b, long)
        | inr p ↦ let e : j ≡ i = omega arith in rw e (omega (arith, new-rank, long))
      ];
      back = λ j a b. elim (cases_lt j i) [
        | inl p ↦ rw (old-rank j p) (old-place (get_or ranks j 0) (is.ranked j p b) ∙ is.back j p b)
        | inr p ↦ let e : j ≡ i = omega arith in rw (e, new-rank) (new-place (length places) refl)
      ];
    }

-- what is none of the places is not marked, and a vector whose numbers were marked holds nothing there
module _ (marks : List Bool) (places ranks : List ℕ) (is : ArePlaces marks places ranks) where
  false_of : (b : Bool) → (b ≡ true → ⊥) → b ≡ false
  false_of true apart = absurd (apart refl)
  false_of false apart = refl

  pub unmarked : (j : ℕ) → j < length marks → IsElsewhere places j → is_marked marks j ≡ false
  unmarked j h other = false_of (is_marked marks j) (λ e. other (get_or ranks j 0) (is.ranked j h e) (is.back j h e))

  pub support : (v : List ℕ) (before : List Bool) → length v ≡ length marks → ((i : ℕ) → is_marked before i ≡ true → is_marked marks i ≡ true)
      → ((i : ℕ) → i < length v → is_marked before i ≡ false → get_or v i 0 ≡ 0) → IsWithin places v
  support v before e kept all i h other = go (is_marked before i) refl
    where
      apart : true ≡ false → ⊥
      apart f = cc

      go : (b : Bool) → is_marked before i ≡ b → get_or v i 0 ≡ 0
      go true f = absurd (apart (sym (kept i f) ∙ unmarked i (omega arith) other))
      go false f = all i h f

-- what is marked is one of the numbers
pub marked-inside : (marks : List Bool) (i : ℕ) → is_marked marks i ≡ true → i < length marks
marked-inside marks i e = elim (cases_lt i (length marks)) [
  | inl p ↦ p
  | inr p ↦ absurd (apart (sym e ∙ get_or_past marks i false p))
]
  where
    apart : true ≡ false → ⊥
    apart f = cc
