-- Sums over two numbers: all pairs with one sum, all with a sum below a bound, and all with each below a bound.
use Rattle.std.proofs.Common.{◌≡◌, ℕ, zero, suc, ◌+◌, refl, sym, ap, ◌∙◌, arith}
use Rattle.sil_fraction.specs.Fraction.{Fraction, ◌+ℚ◌, ◌*ℚ◌, ◌≤ℚ◌, whole}
use Rattle.sil_fraction.specs.Sum.{total_below}
use Rattle.sil_fraction.proofs.Laws.{add_comm, add_assoc, zero-add, mul-add, zero-mul, le_refl, zero-le, whole-add}
use Rattle.sil_fraction.proofs.Sums.{add-le-add, add-mul, add_swap, below-add, below-first, le-below-more}

-- the sum of g a b over the a and b that sum to k
abbrev pub diagonal : ℕ → (ℕ → ℕ → Fraction) → Fraction
diagonal zero g = g 0 0
diagonal (suc k) g = g 0 (suc k) +ℚ diagonal k (λ a b. g (suc a) b)

-- over those that sum to less than n
abbrev pub triangle : ℕ → (ℕ → ℕ → Fraction) → Fraction
triangle n g = total_below n (λ k. diagonal k g)

-- over those with a below m and b below n
abbrev pub box : ℕ → ℕ → (ℕ → ℕ → Fraction) → Fraction
box m n g = total_below m (λ a. total_below n (g a))

-- the last pair taken out in place of the first
pub diagonal-last : (k : ℕ) (g : ℕ → ℕ → Fraction) → diagonal (suc k) g ≡ g (suc k) 0 +ℚ diagonal k (λ a b. g a (suc b))
diagonal-last zero g = add_comm (g 0 1) (g 1 0)
diagonal-last (suc k) g =
    ap (λ s. g 0 (suc (suc k)) +ℚ s) (diagonal-last k (λ a b. g (suc a) b))
    ∙ sym (add_assoc _ _ _) ∙ ap (λ s. s +ℚ diagonal k (λ a b. g (suc a) (suc b))) (add_comm _ _) ∙ add_assoc _ _ _

pub diagonal-same : (k : ℕ) (g h : ℕ → ℕ → Fraction) → ((a b : ℕ) → a + b ≡ k → g a b ≡ h a b) → diagonal k g ≡ diagonal k h
diagonal-same zero g h e = e 0 0 (omega arith)
diagonal-same (suc k) g h e =
    cc (e 0 (suc k) (omega arith), diagonal-same k (λ a b. g (suc a) b) (λ a b. h (suc a) b) (λ a b p. e (suc a) b (omega (arith, p))))

pub diagonal-add : (k : ℕ) (g h : ℕ → ℕ → Fraction) → diagonal k (λ a b. g a b +ℚ h a b) ≡ diagonal k g +ℚ diagonal k h
diagonal-add zero g h = refl
diagonal-add (suc k) g h = rw (diagonal-add k (λ a b. g (suc a) b) (λ a b. h (suc a) b)) (add_swap _ _ _ _)

pub mul-diagonal : (k : ℕ) (c : Fraction) (g : ℕ → ℕ → Fraction) → c *ℚ diagonal k g ≡ diagonal k (λ a b. c *ℚ g a b)
mul-diagonal zero c g = refl
mul-diagonal (suc k) c g = mul-add _ _ _ ∙ ap (λ s. c *ℚ g 0 (suc k) +ℚ s) (mul-diagonal k c (λ a b. g (suc a) b))

-- each pair counted as often as its sum: once for each of its first number, and once for each of its second
pub diagonal-counted : (k : ℕ) (g : ℕ → ℕ → Fraction)
    → whole (suc k) *ℚ diagonal (suc k) g ≡ diagonal k (λ a b. whole (suc a) *ℚ g (suc a) b) +ℚ diagonal k (λ a b. whole (suc b) *ℚ g a (suc b))
diagonal-counted k g =
    mul-diagonal (suc k) (whole (suc k)) g
    ∙ diagonal-same (suc k) _ (λ a b. whole a *ℚ g a b +ℚ whole b *ℚ g a b) each
    ∙ diagonal-add (suc k) (λ a b. whole a *ℚ g a b) (λ a b. whole b *ℚ g a b)
    ∙ cc (
      none (g 0 (suc k)) (diagonal k (λ a b. whole (suc a) *ℚ g (suc a) b)),
      diagonal-last k (λ a b. whole b *ℚ g a b),
      none (g (suc k) 0) (diagonal k (λ a b. whole (suc b) *ℚ g a (suc b))),
    )
  where
    each : (a b : ℕ) → a + b ≡ suc k → whole (suc k) *ℚ g a b ≡ whole a *ℚ g a b +ℚ whole b *ℚ g a b
    each a b p = ap (λ n. n *ℚ g a b) (ap whole (sym p) ∙ whole-add a b) ∙ add-mul _ _ _

    none : (x s : Fraction) → whole 0 *ℚ x +ℚ s ≡ s
    none x s = ap (λ z. z +ℚ s) (zero-mul x) ∙ zero-add s

-- the first row taken out of a triangle and of a box
pub triangle-first : (n : ℕ) (g : ℕ → ℕ → Fraction) → triangle (suc n) g ≡ total_below (suc n) (g 0) +ℚ triangle n (λ a b. g (suc a) b)
triangle-first n g =
    below-first n (λ k. diagonal k g)
    ∙ ap (λ s. g 0 0 +ℚ s) (below-add n (λ k. g 0 (suc k)) (λ k. diagonal k (λ a b. g (suc a) b)))
    ∙ sym (add_assoc _ _ _)
    ∙ ap (λ s. s +ℚ triangle n (λ a b. g (suc a) b)) (sym (below-first n (g 0)))

pub box-first : (m n : ℕ) (g : ℕ → ℕ → Fraction) → box (suc m) n g ≡ total_below n (g 0) +ℚ box m n (λ a b. g (suc a) b)
box-first m n g = below-first m (λ a. total_below n (g a))

-- a box lies in a triangle
pub box-le-triangle : (m n : ℕ) (g : ℕ → ℕ → Fraction) → box m (suc n) g ≤ℚ triangle (m + n) g
box-le-triangle zero n g = zero-le _
box-le-triangle (suc m) n g =
    let e : suc m + n ≡ suc (m + n) = omega arith in
    let r : suc n + m ≡ suc (m + n) = omega arith in
    let row : total_below (suc n) (g 0) ≤ℚ total_below (suc (m + n)) (g 0) = rw r at (le-below-more (suc n) m (g 0)) in
    rw (e, box-first m (suc n) g, triangle-first (m + n) g) (add-le-add _ _ _ _ row (box-le-triangle m n (λ a b. g (suc a) b)))

-- a triangle lies in a box
pub triangle-le-box : (n d : ℕ) (g : ℕ → ℕ → Fraction) → triangle n g ≤ℚ box n (n + d) g
triangle-le-box zero d g = le_refl _
triangle-le-box (suc n) d g =
    let e : suc n + d ≡ n + suc d = omega arith in
    let row : total_below (suc n) (g 0) ≤ℚ total_below (n + suc d) (g 0) = rw e at (le-below-more (suc n) d (g 0)) in
    rw (e, triangle-first n g, box-first n (n + suc d) g) (add-le-add _ _ _ _ row (triangle-le-box n (suc d) (λ a b. g (suc a) b)))
