-- Places in their order: sums over them, and values that are spread from them.
use Rattle.std.proofs.Common.{◌≡◌, ℕ, zero, suc, ◌+◌, ◌<◌, ◌≤◌, inl, inr, refl, sym, ap, ◌∙◌, arith}
use Rattle.std.specs.Prelude.{Bool, true, false, ◌==◌, if◌then◌else◌}
use Rattle.std.proofs.lemmas.Bool.{cases_lt, eqb-true, ne_eqb}
use Rattle.sil_fraction.specs.Fraction.{Fraction, ◌+ℚ◌, ◌*ℚ◌, ◌≤ℚ◌, whole}
use Rattle.sil_fraction.specs.Sum.{total_below, sum_below}
use Rattle.sil_fraction.proofs.Laws.{zero-le, zero-add, le_trans, le_of_same, le-whole}
use Rattle.sil_fraction.proofs.Sums.{add-le-add, le-add_right, add-zero, mul-one, mul-zero, below-same, below-constant, whole-sum, sum-add}
use Rattle.vector_laws.proofs.Masses.{sum-zeros}
use Rattle.product_chain.specs.Weights.{one_at}

module _ (p : ℕ → ℕ) where
  abbrev pub Rising : ℕ → Type 0
  Rising m = (k l : ℕ) → k < l → l < m → p k < p l

  abbrev pub Elsewhere : ℕ → ℕ → Type 0
  Elsewhere m i = (k : ℕ) → k < m → p k ≡ i → ⊥

  -- a sum of what is nothing elsewhere
  pub below-places : (h : ℕ → Fraction) (n m : ℕ) → Rising m → ((k : ℕ) → k < m → p k < n) → ((i : ℕ) → i < n → Elsewhere m i → h i ≡ whole 0)
      → total_below n h ≡ total_below m (λ k. h (p k))
  below-places h zero zero rising below none = refl
  below-places h zero (suc m) rising below none = absurd (omega (arith, below m (omega arith)))
  below-places h (suc n) zero rising below none =
      let rest : total_below n h ≡ whole 0 =
      below-places h n zero (λ k l a b. absurd (omega arith)) (λ k a. absurd (omega arith)) (λ i a e. none i (omega arith) e) in
      let last : h n ≡ whole 0 = none n (omega arith) (λ k a b. absurd (omega arith)) in
      rw (rest, last) (add-zero (whole 0))
  below-places h (suc n) (suc m) rising below none = elim (cases_lt (p m) n) [
    | inl q ↦
        let all : (k : ℕ) → k < suc m → p k < n = λ k a. elim (cases_lt k m) [
          | inl b ↦ omega (arith, rising k m b (omega arith))
          | inr b ↦ let e : k ≡ m = omega arith in rw e q
        ] in
        let last : h n ≡ whole 0 = none n (omega arith) (λ k a e. absurd (omega (arith, all k a, e))) in
        rw last (add-zero _ ∙ below-places h n (suc m) rising all (λ i a e. none i (omega arith) e))
    | inr q ↦
        let e : p m ≡ n = omega (arith, below m (omega arith)) in
        let before : (k : ℕ) → k < m → p k < n = λ k a. omega (arith, rising k m a (omega arith), e) in
        let inner : (i : ℕ) → i < n → Elsewhere m i → h i ≡ whole 0 =
        λ i a o. none i (omega arith) (λ k b f. elim (cases_lt k m) [
          | inl d ↦ o k d f
          | inr d ↦ let s : k ≡ m = omega arith in let g : p m ≡ i = ap p (sym s) ∙ f in absurd (omega (arith, g, e))
        ]) in
        rw e (ap (λ x. x +ℚ h n) (below-places h n m (λ k l a b. rising k l a (omega arith)) before inner))
  ]

  -- a sum over the places is no greater than one over all
  pub below-places-le : (h : ℕ → Fraction) (n m : ℕ) → Rising m → ((k : ℕ) → k < m → p k < n) → total_below m (λ k. h (p k)) ≤ℚ total_below n h
  below-places-le h n zero rising below = zero-le (total_below n h)
  below-places-le h zero (suc m) rising below = absurd (omega (arith, below m (omega arith)))
  below-places-le h (suc n) (suc m) rising below = elim (cases_lt (p m) n) [
    | inl q ↦
        let all : (k : ℕ) → k < suc m → p k < n = λ k a. elim (cases_lt k m) [
          | inl b ↦ omega (arith, rising k m b (omega arith))
          | inr b ↦ let e : k ≡ m = omega arith in rw e q
        ] in
        le_trans _ _ _ (below-places-le h n (suc m) rising all) (le-add_right (total_below n h) (h n))
    | inr q ↦
        let e : p m ≡ n = omega (arith, below m (omega arith)) in
        let before : (k : ℕ) → k < m → p k < n = λ k a. omega (arith, rising k m a (omega arith), e) in
        add-le-add _ _ _ _ (below-places-le h n m (λ k l a b. rising k l a (omega arith)) before) (le_of_same _ _ (ap h e))
  ]

  -- the same of whole numbers
  pub sum-places-le : (h : ℕ → ℕ) (n m : ℕ) → Rising m → ((k : ℕ) → k < m → p k < n) → sum_below m (λ k. h (p k)) ≤ sum_below n h
  sum-places-le h n m rising below =
      le-whole _ _ (le_trans _ _ _ (le_of_same _ _ (whole-sum m (λ k. h (p k))))
      (le_trans _ _ _ (below-places-le (λ i. whole (h i)) n m rising below) (le_of_same _ _ (sym (whole-sum n h)))))

  -- and equal where there is nothing elsewhere
  pub sum-places : (h : ℕ → ℕ) (n m : ℕ) → Rising m → ((k : ℕ) → k < m → p k < n) → ((i : ℕ) → i < n → Elsewhere m i → h i ≡ 0)
      → sum_below n h ≡ sum_below m (λ k. h (p k))
  sum-places h n m rising below none =
      let e : whole (sum_below n h) ≡ whole (sum_below m (λ k. h (p k))) =
      whole-sum n h ∙ below-places (λ i. whole (h i)) n m rising below (λ i a o. ap whole (none i a o)) ∙ sym (whole-sum m (λ k. h (p k))) in
      omega (arith, le-whole _ _ (le_of_same _ _ e), le-whole _ _ (le_of_same _ _ (sym e)))

  -- values that are read at the places and spread again are no greater
  pub spread-le : (f : ℕ → Fraction) (i m : ℕ) → Rising m → total_below m (λ k. f (p k) *ℚ one_at (p k) i) ≤ℚ f i
  spread-le f i zero rising = zero-le (f i)
  spread-le f i (suc m) rising = go (i == p m) refl (spread-le f i m (λ k l a b. rising k l a (omega arith)))
    where
      go : (b : Bool) → (i == p m) ≡ b → total_below m (λ k. f (p k) *ℚ one_at (p k) i) ≤ℚ f i
          → total_below m (λ k. f (p k) *ℚ one_at (p k) i) +ℚ f (p m) *ℚ (if b then whole 1 else whole 0) ≤ℚ f i
      go true e before_le =
          let here : i ≡ p m = eqb-true i (p m) e in
          let before : total_below m (λ k. f (p k) *ℚ one_at (p k) i) ≡ whole 0 =
          below-same m _ (λ k. whole 0) (λ k a. let q : (i == p k) ≡ false = ne_eqb i (p k) (λ d. absurd (omega (arith, d, here, rising k m a (omega arith)))) in
          rw q (mul-zero (f (p k))))
          ∙ below-constant m (whole 0) ∙ mul-zero _ in
          le_of_same _ _ (rw before (zero-add _ ∙ mul-one (f (p m)) ∙ ap f (sym here)))
      go false e before_le =
          le_trans _ _ _ (le_of_same _ _ (ap (λ x. total_below m (λ k. f (p k) *ℚ one_at (p k) i) +ℚ x) (mul-zero (f (p m))) ∙ add-zero _))
          before_le

-- whole sums either way round
pub sum-swap : (m n : ℕ) (f : ℕ → ℕ → ℕ) → sum_below m (λ k. sum_below n (f k)) ≡ sum_below n (λ l. sum_below m (λ k. f k l))
unfolding sum_below
sum-swap zero n f = sym (sum-zeros n (λ l. 0) (λ k h. refl))
sum-swap (suc m) n f = ap (λ x. x + sum_below n (f m)) (sum-swap m n f) ∙ sym (sum-add n (λ l. sum_below m (λ k. f k l)) (f m))

-- one of them is at most all
pub term-le : (n : ℕ) (f : ℕ → ℕ) (i : ℕ) → i < n → f i ≤ sum_below n f
unfolding sum_below
term-le zero f i h = absurd (omega arith)
term-le (suc n) f i h = elim (cases_lt i n) [
  | inl p ↦ omega (arith, term-le n f i p)
  | inr p ↦ let e : i ≡ n = omega arith in rw e (omega arith)
]
