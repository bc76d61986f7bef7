-- Marks that are set, one after another.
use Rattle.std.proofs.Common.{◌≡◌, ℕ, zero, suc, ◌+◌, ◌<◌, ◌≤◌, inl, inr, List, [], ◌∷◌, length, set, sym, ap, ◌∙◌, arith, get_or-set_same, get_or-set_other}
use Rattle.std.specs.Prelude.{Bool, true, false, if◌then◌else◌, All}
use Rattle.std.proofs.lemmas.Bool.{cases_lt}
use Rattle.std.proofs.lemmas.List.Sums.{sum_by-cons}
use Rattle.product_chain.specs.declared.column.Entry.{Entry}
use Rattle.product_chain.specs.Columns.{part}
use Rattle.place_chain.specs.Marks.{is_marked, left_over, IsPassedOn, AreNeeded}

abbrev left_of : Bool → ℕ
left_of b = if b then 0 else 1

-- one mark more leaves one less over
pub left_over-set : (marks : List Bool) (j : ℕ) → j < length marks → is_marked marks j ≡ false → left_over (set marks j true) + 1 ≡ left_over marks
left_over-set [] j h e = absurd (omega arith)
left_over-set (b ∷ marks) zero h e =
    let one : left_of b ≡ 1 = ap left_of e in
    omega (arith, sum_by-cons left_of true marks, sum_by-cons left_of b marks, one)
left_over-set (b ∷ marks) (suc j) h e =
    omega (arith, sum_by-cons left_of b (set marks j true), sum_by-cons left_of b marks, left_over-set marks j (omega arith) e)

-- what was marked stays marked
pub kept-set : (marks : List Bool) (j i : ℕ) → j < length marks → is_marked marks i ≡ true → is_marked (set marks j true) i ≡ true
kept-set marks j i h e = elim (cases_lt i j) [
  | inl p ↦ get_or-set_other marks j i true false (λ d. absurd (omega arith)) ∙ e
  | inr p ↦ elim (cases_lt j i) [
    | inl q ↦ get_or-set_other marks j i true false (λ d. absurd (omega arith)) ∙ e
    | inr q ↦ let s : i ≡ j = omega arith in rw s (get_or-set_same marks j true false h)
  ]
]

-- one round up to the target j
pub record IsTurn (before : List Bool) (starts : List ℕ) (entries : List Entry) (j : ℕ) (marks : List Bool) (found : Bool) : Type 0 where
  pub kept : (i : ℕ) → is_marked before i ≡ true → is_marked marks i ≡ true
  pub closed : found ≡ false → (k : ℕ) → k < j → is_marked marks k ≡ false → All (λ e. is_marked marks e.source ≡ false) (part starts entries k)
  pub fewer : found ≡ true → left_over marks < left_over before
  pub most : left_over marks ≤ left_over before
  pub least : AreNeeded (length before) starts entries before marks

module _ (before : List Bool) (starts : List ℕ) (entries : List Entry) (j : ℕ) (marks : List Bool) (found : Bool) (is : IsTurn before starts entries j marks found) where
  apart : true ≡ false → ⊥
  apart e = cc

  -- the target is marked
  pub turn-new : j < length marks → is_marked marks j ≡ false
      → ((P : ℕ → Bool) → IsPassedOn (length before) starts entries P → ((i : ℕ) → is_marked marks i ≡ true → P i ≡ true) → P j ≡ true)
      → IsTurn before starts entries (j + 1) (set marks j true) true
  turn-new h e led = record {
    kept = λ i f. kept-set marks j i h (is.kept i f);
    closed = λ f. absurd (apart f);
    fewer = λ f. omega (arith, left_over-set marks j h e, is.most);
    most = omega (arith, left_over-set marks j h e, is.most);
    least = λ P on has i f. elim (cases_lt i j) [
      | inl p ↦ is.least P on has i (sym (get_or-set_other marks j i true false (λ d. absurd (omega arith))) ∙ f)
      | inr p ↦ elim (cases_lt j i) [
        | inl q ↦ is.least P on has i (sym (get_or-set_other marks j i true false (λ d. absurd (omega arith))) ∙ f)
        | inr q ↦ let s : i ≡ j = omega arith in rw s (led P on (is.least P on has))
      ]
    ];
  }

  -- it is not
  pub turn-old : (is_marked marks j ≡ false → All (λ e. is_marked marks e.source ≡ false) (part starts entries j)) → IsTurn before starts entries (j + 1) marks found
  turn-old closed = record {
    kept = is.kept;
    closed = λ f k h e. elim (cases_lt k j) [
      | inl p ↦ is.closed f k p e
      | inr p ↦ let s : k ≡ j = omega arith in rw s (closed (rw s at e))
    ];
    fewer = is.fewer;
    most = is.most;
    least = is.least;
  }
