-- Squares of polynomials: by halves, and with zeros before and after.
use Rattle.std.proofs.Common.{◌≡◌, ℕ, zero, suc, ◌+◌, ◌-◌, ◌*◌, ◌<◌, ◌≤◌, refl, ap, ◌∙◌, arith, inl, inr}
use Rattle.std.proofs.Math.Nat.{mul-le-mul_left}
use Rattle.std.proofs.lemmas.Bool.{cases_lt}
use Rattle.sil_fraction.specs.Sum.{sum_below}
use Rattle.sil_fraction.proofs.Sums.{sum-same, sum-le, sum-mul, sum-first, sum-append}
use Rattle.vector_laws.proofs.Masses.{sum-zeros}
use Rattle.beat_ladder.specs.Powers.{square_at}

-- the same terms from the last to the first
sum-reversed : (n : ℕ) (f : ℕ → ℕ) → sum_below n f ≡ sum_below n (λ k. f (n - suc k))
unfolding sum_below
sum-reversed zero f = refl
sum-reversed (suc n) f =
    let last : suc n - suc n ≡ 0 = omega arith in
    let each : (k : ℕ) → k < n → f (suc (n - suc k)) ≡ f (suc n - suc k) = λ k h. let e : suc (n - suc k) ≡ suc n - suc k = omega arith in ap f e in
    let rest : sum_below n (λ k. f (suc k)) ≡ sum_below n (λ k. f (suc n - suc k)) = sum-reversed n (λ k. f (suc k)) ∙ sum-same n _ _ each in
    omega (arith, sum-first n f, rest, ap f last)

module _ (x : ℕ → ℕ) where
  -- the terms above the middle are those below it
  mirrored : (h k c : ℕ) → c + h ≡ suc k → sum_below h (λ i. x (c + i) * x (k - (c + i))) ≡ sum_below h (λ i. x i * x (k - i))
  mirrored h k c e =
      sum-reversed h (λ i. x (c + i) * x (k - (c + i)))
      ∙ sum-same h _ _ (λ i p.
      let a : c + (h - suc i) ≡ k - i = omega arith in
      let b : k - (c + (h - suc i)) ≡ i = omega arith in
      ap (λ j. x j * x (k - (c + (h - suc i)))) a ∙ ap (λ j. x (k - i) * x j) b ∙ omega arith)

  pub square-odd : (h k : ℕ) → k ≡ 2 * h + 1 → square_at x k ≡ 2 * sum_below (suc h) (λ i. x i * x (k - i))
  unfolding square_at
  square-odd h k e =
      let n : suc k ≡ suc h + suc h = omega arith in
      rw n (omega (arith, sum-append (suc h) (suc h) (λ i. x i * x (k - i)), mirrored (suc h) k (suc h) (omega arith)))

  pub square-even : (h k : ℕ) → k ≡ 2 * h → square_at x k ≡ 2 * sum_below h (λ i. x i * x (k - i)) + x h * x h
  unfolding square_at
  square-even h k e =
      let n : suc k ≡ h + suc h = omega arith in
      let first : sum_below (suc h) (λ i. x (h + i) * x (k - (h + i))) ≡ x (h + 0) * x (k - (h + 0)) + sum_below h (λ i. x (h + suc i) * x (k - (h + suc i))) = sum-first h (λ i. x (h + i) * x (k - (h + i))) in
      let middle : x (h + 0) * x (k - (h + 0)) ≡ x h * x h =
      let a : h + 0 ≡ h = omega arith in let b : k - h ≡ h = omega arith in rw (a, b) refl in
      let one : (i : ℕ) → h + suc i ≡ suc h + i = λ i. omega arith in
      let rest : sum_below h (λ i. x (h + suc i) * x (k - (h + suc i))) ≡ sum_below h (λ i. x i * x (k - i)) =
      sum-same h _ _ (λ i p. ap (λ j. x j * x (k - j)) (one i)) ∙ mirrored h k (suc h) (omega arith) in
      rw n (omega (arith, sum-append h (suc h) (λ i. x i * x (k - i)), first, middle, rest))

  -- numbers that end before n
  module _ (n : ℕ) (ends : (i : ℕ) → n ≤ i → x i ≡ 0) where
    -- no term with a factor past the end
    pub square-first : (k c : ℕ) → c ≤ suc k - n → sum_below c (λ i. x i * x (k - i)) ≡ 0
    square-first k c h = sum-zeros c _ (λ i p. let e : x (k - i) ≡ 0 = ends (k - i) (omega arith) in rw e (omega arith))

    pub square-after : (k : ℕ) → n + n ≤ suc k → square_at x k ≡ 0
    unfolding square_at
    square-after k h = sum-zeros (suc k) _ (λ i p. elim (cases_lt i n) [
      | inl g ↦ let e : x (k - i) ≡ 0 = ends (k - i) (omega arith) in rw e (omega arith)
      | inr g ↦ let e : x i ≡ 0 = ends i g in rw e (omega arith)
    ])

  -- each number at most b, and all of them together at most s
  pub square-le : (b s k : ℕ) → ((i : ℕ) → x i ≤ b) → sum_below (suc k) x ≤ s → square_at x k ≤ b * s
  unfolding square_at
  square-le b s k small all =
      let a : sum_below (suc k) (λ i. x i * x (k - i)) ≤ sum_below (suc k) (λ i. b * x i) = sum-le (suc k) _ _ (λ i p. omega (arith, mul-le-mul_left (x i) (small (k - i)))) in
      omega (arith, a, sum-mul (suc k) b x, mul-le-mul_left b all)

-- numbers a with `low` zeros put before them
module _ (x a : ℕ → ℕ) (low : ℕ) (before : (k : ℕ) → k < low → x k ≡ 0) (shifted : (k : ℕ) → x (low + k) ≡ a k) where
  pub square-before : (k : ℕ) → k < low + low → square_at x k ≡ 0
  unfolding square_at
  square-before k h = sum-zeros (suc k) _ (λ i p. elim (cases_lt i low) [
    | inl g ↦ let e : x i ≡ 0 = before i g in rw e (omega arith)
    | inr g ↦ let e : x (k - i) ≡ 0 = before (k - i) (omega arith) in rw e (omega arith)
  ])

  pub square-shift : (q k : ℕ) → k ≡ low + low + q → square_at x k ≡ square_at a q
  unfolding square_at
  square-shift q k e =
      let n : suc k ≡ low + (suc q + low) = omega arith in
      let f : ℕ → ℕ = λ i. x i * x (k - i) in
      let front : sum_below low f ≡ 0 = sum-zeros low f (λ i p. let z : x i ≡ 0 = before i p in rw z (omega arith)) in
      let each : (i : ℕ) → i < suc q → x (low + i) * x (k - (low + i)) ≡ a i * a (q - i) =
      λ i p. let j : k - (low + i) ≡ low + (q - i) = omega arith in rw (j, shifted i, shifted (q - i)) refl in
      let back : sum_below low (λ i. x (low + (suc q + i)) * x (k - (low + (suc q + i)))) ≡ 0 =
      sum-zeros low _ (λ i p. let z : x (k - (low + (suc q + i))) ≡ 0 = before _ (omega arith) in rw z (omega arith)) in
      rw n (omega (arith, sum-append low (suc q + low) f, sum-append (suc q) low (λ i. f (low + i)), front, back, sum-same (suc q) (λ i. f (low + i)) _ each))
