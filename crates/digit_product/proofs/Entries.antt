-- The entries of a column, one row after another, and how great their sums of products are.
use Rattle.std.proofs.Common.{◌≡◌, ℕ, zero, suc, ◌+◌, ◌-◌, ◌*◌, ◌^◌, ◌<◌, ◌≤◌, List, [], ◌∷◌, ◌++◌, length, sum, get_or, refl, sym, ap, ◌∙◌, arith, inl, inr, length-append, ◌/◌}
use Rattle.std.specs.Prelude.{All}
use Rattle.std.proofs.Math.Nat.{mul-le-mul_left}
use Rattle.std.proofs.lemmas.Bool.{cases_lt}
use Rattle.std.proofs.lemmas.List.Elements.{All-append, All-cons, All-nil, All-weaker}
use Rattle.std.proofs.lemmas.List.Sums.{sum_by-cons, sum_by-append}
use Rattle.sil_fraction.specs.Sum.{sum_below}
use Rattle.sil_fraction.proofs.Sums.{sum-none, sum-next, sum-append, sum-le, sum-mul, sum-same}
use Rattle.vector_laws.proofs.Masses.{sum_of, sum-zeros, past}
use Rattle.vector_laws.specs.Matrix.{Matrix, entry_of, EachEntryAtMost}
use Rattle.digit_product.specs.declared.column.Entry.{Entry}
use Rattle.digit_product.specs.Columns.{weighed_from, AreEntries}
use Rattle.digit_product.specs.Lines.{place_of, brought}

module _ (m : Matrix) (stride j : ℕ) where
  pub entries-none : AreEntries m stride j 0 []
  entries-none = record {
    few = omega arith;
    within = All-nil (λ (e : Entry). e.offset + stride ≤ 0 * stride);
    sums = λ x. sym (sum-none (λ a. x (a * stride) * entry_of m a j));
  }

  module _ (row : ℕ) (es : List Entry) (so_far : AreEntries m stride j row es) where
    within-more : All (λ (e : Entry). e.offset + stride ≤ (row + 1) * stride) es
    within-more = All-weaker (λ (e : Entry). e.offset + stride ≤ row * stride) (λ (e : Entry). e.offset + stride ≤ (row + 1) * stride)
        (λ e h. omega (arith, h)) es so_far.within

    -- an entry that is 0 is left out
    pub entries-zero : entry_of m row j ≡ 0 → AreEntries m stride j (row + 1) es
    entries-zero none = record {
      few = omega (arith, so_far.few);
      within = within-more;
      sums = λ x. rw sum-next (omega (arith, so_far.sums x, ap (λ s. x (row * stride) * s) none));
    }

    -- another one is added
    pub entries-next : (e : Entry) → e.offset ≡ row * stride → e.weight ≡ entry_of m row j → AreEntries m stride j (row + 1) (es ++ e ∷ [])
    entries-next e at weight = record {
      few = omega (arith, so_far.few, length-append es (e ∷ []));
      within = All-append (λ (e : Entry). e.offset + stride ≤ (row + 1) * stride) es (e ∷ []) within-more
          (All-cons (λ (e : Entry). e.offset + stride ≤ (row + 1) * stride) e [] (omega (arith, at)) (All-nil (λ (e : Entry). e.offset + stride ≤ (row + 1) * stride)));
      sums = λ x.
          let here : x e.offset * e.weight ≡ x (row * stride) * entry_of m row j = rw (at, weight) refl in
          rw sum-next (omega (
            arith,
            so_far.sums x,
            here,
            sum_by-append (λ (e : Entry). x e.offset * e.weight) es (e ∷ []),
            sum_by-cons (λ (e : Entry). x e.offset * e.weight) e [],
          ));
    }

-- numbers at equal distances are among all numbers up to their end
spaced-le : (f : ℕ → ℕ) (first stride n : ℕ) → 0 < stride → sum_below n (λ a. f (first + a * stride)) ≤ sum_below (first + n * stride) f
unfolding sum_below
spaced-le f first stride zero some = omega arith
spaced-le f first stride (suc n) some =
    let e : first + n * stride + 1 + (stride - 1) ≡ first + suc n * stride = omega arith in
    let split : sum_below (first + suc n * stride) f ≡ sum_below (first + n * stride + 1) f + sum_below (stride - 1) (λ k. f (first + n * stride + 1 + k)) =
    rw e at (sum-append (first + n * stride + 1) (stride - 1) f) in
    omega (arith, split, sum-next (first + n * stride) f, spaced-le f first stride n some)

-- and no more than all numbers of a list
all-le : (v : List ℕ) (n : ℕ) → sum_below n (λ i. get_or v i 0) ≤ sum v
all-le v n = elim (cases_lt n (length v)) [
  | inl h ↦
      let e : n + (length v - n) ≡ length v = omega arith in
      omega (arith, sum_of v, rw e at (sum-append n (length v - n) (λ i. get_or v i 0)))
  | inr h ↦
      let e : length v + (n - length v) ≡ n = omega arith in
      let none : sum_below (n - length v) (λ k. get_or v (length v + k) 0) ≡ 0 = sum-zeros (n - length v) _ (λ k p. past v (length v + k) (omega arith)) in
      omega (arith, sum_of v, none, rw e at (sum-append (length v) (n - length v) (λ i. get_or v i 0)))
]

-- a column of entries that are at most 1 makes sums of products that fit
pub weighed-small : (m : Matrix) (stride j : ℕ) (es : List Entry) (v : List ℕ) → 0 < stride → j < m.size → EachEntryAtMost m (2 ^ 48) → sum v ≤ 2 ^ 63
    → AreEntries m stride j m.size es → (first : ℕ) → weighed_from v first es < 2 ^ 112
weighed-small m stride j es v some inside small mass are first =
    let each : sum_below m.size (λ a. get_or v (first + a * stride) 0 * entry_of m a j) ≤ sum_below m.size (λ a. 2 ^ 48 * get_or v (first + a * stride) 0) =
    sum-le m.size _ _ (λ a h. omega (arith, mul-le-mul_left (get_or v (first + a * stride) 0) (small.entry a j h inside))) in
    let e : sum_below m.size (λ a. 2 ^ 48 * get_or v (first + a * stride) 0) ≡ 2 ^ 48 * sum_below m.size (λ a. get_or v (first + a * stride) 0) = sum-mul m.size (2 ^ 48) _ in
    let spaced : sum_below m.size (λ a. get_or v (first + a * stride) 0) ≤ sum_below (first + m.size * stride) (λ i. get_or v i 0) =
    spaced-le (λ i. get_or v i 0) first stride m.size some in
    omega (arith, are.sums (λ i. get_or v (first + i) 0), each, e, spaced, all-le v (first + m.size * stride))

-- what the entries of a column make of a line, rounded down, is what the matrix brings of it
pub brought-weighed : (m : Matrix) (stride j : ℕ) (es : List Entry) (v : List ℕ) (low high : ℕ) → AreEntries m stride j m.size es
    → weighed_from v (low + stride * m.size * high) es / 2 ^ 48 ≡ brought stride m v low high j
brought-weighed m stride j es v low high are =
    ap (λ s. s / 2 ^ 48) (are.sums (λ i. get_or v (low + stride * m.size * high + i) 0) ∙ sum-same m.size _ _ (λ a h. ap (λ i. get_or v i 0 * entry_of m a j) (omega arith)))

-- of a line of zeros it brings nothing
pub brought-zero : (m : Matrix) (stride j : ℕ) (v : List ℕ) (low high : ℕ)
    → ((digit : ℕ) → digit < m.size → get_or v (place_of stride m.size low digit high) 0 ≡ 0) → brought stride m v low high j ≡ 0
brought-zero m stride j v low high none =
    let e : sum_below m.size (λ a. get_or v (place_of stride m.size low a high) 0 * entry_of m a j) ≡ 0 =
    sum-zeros m.size _ (λ a h. rw (none a h) (omega arith)) in
    rw e (omega arith)
