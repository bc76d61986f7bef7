-- The lines that are listed, one after another.
use Rattle.std.proofs.Common.{◌≡◌, ℕ, suc, ◌+◌, ◌*◌, ◌/◌, ◌^◌, ◌<◌, ◌≢◌, List, [], ◌∷◌, ◌++◌, length, get_or, refl, sym, ◌∙◌, arith, inl, inr, length-append}
use Rattle.std.specs.Prelude.{All, ◌⊎◌, Some}
use Rattle.std.proofs.lemmas.Bool.{cases_lt, cases_eq}
use Rattle.std.proofs.lemmas.Nat.{mul-add-lt}
use Rattle.std.proofs.lemmas.List.Elements.{All-append, All-cons, All-nil, All-pop}
use Rattle.separate_laws.specs.Digits.{digit_of}
use Rattle.digit_product.specs.Lines.{place_of, brought, AreLines}
use Rattle.vector_laws.specs.Matrix.{Matrix}
use Rattle.digit_product.specs.declared.column.Entry.{Entry}
use Rattle.digit_product.specs.Columns.{AreEntries, weighed_from}
use Rattle.digit_product.proofs.Digits.{same-parts, digit-at, other-digit}
use Rattle.digit_product.proofs.Entries.{brought-weighed, brought-zero}

module _ (stride size : ℕ) (v : List ℕ) where
  module _ (fs : List ℕ) (low high : ℕ) (small : low < stride) (so_far : AreLines stride size (high * stride + low) v fs) where
    -- a line before the next one, or that one
    before : (l k : ℕ) → l < stride → k * stride + l < high * stride + (low + 1) → (k * stride + l < high * stride + low) ⊎ ((l ≡ low) × (k ≡ high))
    before l k h p = elim (cases_lt (k * stride + l) (high * stride + low)) [
      | inl q ↦ inl q
      | inr q ↦ inr (same-parts stride l k low high h small (omega (arith, p, q)))
    ]

    -- a line of zeros is not listed
    pub lines-zero : ((digit : ℕ) → digit < size → get_or v (place_of stride size low digit high) 0 ≡ 0) → AreLines stride size (high * stride + (low + 1)) v fs
    lines-zero none = record {
      few = omega (arith, so_far.few);
      first = so_far.first;
      within = so_far.within;
      zeros = λ l k h p apart digit q. elim (before l k h p) [
        | inl r ↦ so_far.zeros l k h r apart digit q
        | inr e ↦ rw (e.0, e.1) (none digit q)
      ];
    }

    -- another one is
    pub lines-next : (f : ℕ) → f ≡ place_of stride size low 0 high → 0 < size → f + size * stride < length v + stride
        → AreLines stride size (high * stride + (low + 1)) v (fs ++ f ∷ [])
    lines-next f at more within = record {
      few = omega (arith, so_far.few, length-append fs (f ∷ []));
      first = All-append (λ f. digit_of stride size f ≡ 0) fs (f ∷ []) so_far.first
          (All-cons (λ f. digit_of stride size f ≡ 0) f [] (rw at (digit-at stride size low 0 high small more)) (All-nil (λ f. digit_of stride size f ≡ 0)));
      within = All-append (λ f. f + size * stride < length v + stride) fs (f ∷ []) so_far.within
          (All-cons (λ f. f + size * stride < length v + stride) f [] within (All-nil (λ f. f + size * stride < length v + stride)));
      zeros = λ l k h p apart digit q.
          let at_place : f ≡ place_of stride size low 0 high = at in
          let split = All-pop (λ f. f ≢ place_of stride size l 0 k) (fs ++ f ∷ []) fs (Some f) refl apart in
          elim (before l k h p) [
            | inl r ↦ so_far.zeros l k h r split.0 digit q
            | inr e ↦ absurd (split.1 (rw (e.0, e.1) at_place))
          ];
    }

-- a number is listed, or each that is listed is another
pub listed : (xs : List ℕ) (g : ℕ) → ((i : ℕ) × (i < length xs) × (get_or xs i 0 ≡ g)) ⊎ All (λ f. f ≢ g) xs
listed [] g = inr (All-nil (λ f. f ≢ g))
listed (x ∷ xs) g = elim (cases_eq x g) [
  | inl e ↦ inl (0, omega arith, e)
  | inr apart ↦ elim (listed xs g) [
    | inl found ↦ inl (suc found.0, omega (arith, found.1), found.2)
    | inr none ↦ inr (All-cons (λ f. f ≢ g) x xs apart none)
  ]
]

-- one digit more is filled
module _ (m : Matrix) (stride blocks j : ℕ) (v starts : List ℕ) (column : List Entry) (out new : List ℕ)
    (some : 0 < stride) (inside : j < m.size) (lines : AreLines stride m.size (blocks * stride) v starts) (entries : AreEntries m stride j m.size column)
    (filled : All (λ f. get_or new (f + j * stride) 0 ≡ weighed_from v f column / 2 ^ 48) starts)
    (others : (k : ℕ) → All (λ f. f + j * stride ≢ k) starts → get_or new k 0 ≡ get_or out k 0) where
  -- the numbers of other digits stay
  pub others-stay : (low digit high : ℕ) → low < stride → digit < m.size → digit ≢ j
      → get_or new (place_of stride m.size low digit high) 0 ≡ get_or out (place_of stride m.size low digit high) 0
  others-stay low digit high h p apart =
      others (place_of stride m.size low digit high)
      (λ i d q. other-digit stride m.size (get_or starts i d) j low digit high (lines.first i d q) some h inside p apart)

  -- those of this digit are what the matrix brings
  pub digit-filled : (low high : ℕ) → low < stride → high < blocks → get_or out (place_of stride m.size low j high) 0 ≡ 0
      → get_or new (place_of stride m.size low j high) 0 ≡ brought stride m v low high j
  digit-filled low high h p none = elim (listed starts (place_of stride m.size low 0 high)) [
    | inl found ↦
        let start : get_or starts found.0 0 ≡ low + stride * m.size * high = omega (arith, found.2) in
        let place : get_or starts found.0 0 + j * stride ≡ place_of stride m.size low j high = omega (arith, start) in
        let here : get_or new (place_of stride m.size low j high) 0 ≡ weighed_from v (get_or starts found.0 0) column / 2 ^ 48 = rw place at (filled found.0 0 found.1) in
        let same : weighed_from v (get_or starts found.0 0) column / 2 ^ 48 ≡ brought stride m v low high j = rw start (brought-weighed m stride j column v low high entries) in
        here ∙ same
    | inr apart ↦
        let away : get_or new (place_of stride m.size low j high) 0 ≡ get_or out (place_of stride m.size low j high) 0 =
        others (place_of stride m.size low j high) (λ i d q e. apart i d q (omega (arith, e))) in
        away ∙ none ∙ sym (brought-zero m stride j v low high (lines.zeros low high h (line-below p) apart))
  ]
    where
      line-below : high < blocks → high * stride + low < blocks * stride
      line-below p = omega (arith, mul-add-lt high stride low blocks p h)
