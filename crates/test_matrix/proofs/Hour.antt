-- The tests of an hour over vectors: what is expected after them, what is lost, and the passages from up to down.
use Rattle.std.proofs.Common.{◌≡◌, ℕ, ◌+◌, ◌-◌, ◌*◌, ◌<◌, ◌≤◌, refl, sym, ap, ◌∙◌, arith}
use Rattle.std.specs.Prelude.{Bool, true, false, cond, not}
use Rattle.std.proofs.Math.Nat.{mul-le-mul_left, le_of_mul-le-mul_right}
use mathlib.Core.Path.{fun_ext}
use Rattle.sil_fraction.specs.Fraction.{Fraction, ◌+ℚ◌, ◌-ℚ◌, ◌*ℚ◌, ◌≤ℚ◌, whole}
use Rattle.sil_fraction.specs.Sum.{total_below, sum_below}
use Rattle.sil_fraction.proofs.Laws.{le_trans, zero-add, zero-mul, whole-add, le_of_same}
use Rattle.sil_fraction.proofs.Sums.{trivial, add-mul, add-zero, mul-one, mul-zero, add-le-add, below-add, below-same, sum-add, whole-sum}
use Rattle.sil_model.specs.Series.{Values}
use Rattle.sil_model.specs.Pay.{one_if}
use Rattle.test_matrix.specs.Halves.{number_if}
use Rattle.test_matrix.specs.Hours.{passing_by}
use Rattle.test_matrix.proofs.Numbers.{rest_of_one}

-- the sum of the first v_i * f_i
abbrev pub weigh_below : ℕ → (ℕ → ℕ) → Values ℕ → Fraction
weigh_below n v f = total_below n (λ i. whole (v i) *ℚ f i)

-- what a group's tests lose of both parts together
pub group_loss : (S M E a b c d : ℕ) → 0 < M → a + b ≤ M → M * a ≤ M * c + E * a + S * M → M * b ≤ M * d + E * b + S * M → a + b ≤ c + d + (E + 2 * S)
group_loss S M E a b c d some mass h g = le_of_mul-le-mul_right {k = M} (omega (arith, h, g, mul-le-mul_left E mass)) some

-- a sum over the places that pass a test, as a weighing
counted : (S : ℕ) (b : ℕ → Bool) (w : ℕ → ℕ) → whole (sum_below S (λ j. number_if (b j) (w j))) ≡ weigh_below S w (λ j. one_if (b j))
counted S b w = whole-sum S (λ j. number_if (b j) (w j)) ∙ ap (total_below S) (fun_ext (λ j. one (b j) (w j)))
  where
    one : (b : Bool) (n : ℕ) → whole (number_if b n) ≡ whole n *ℚ one_if b
    one true n = sym (mul-one (whole n))
    one false n = sym (mul-zero (whole n))

counted_all : (S : ℕ) (w : ℕ → ℕ) → whole (sum_below S w) ≡ weigh_below S w (λ j. whole 1)
counted_all S w = whole-sum S w ∙ ap (total_below S) (fun_ext (λ j. sym (mul-one (whole (w j)))))

-- an hour's tests, by the two parts of the vector: what was up before them and what was down
module _ (S : ℕ) (up : ℕ → Bool) (P : (ℕ → Fraction) → ℕ → Fraction)
    (v u d u' d' : ℕ → ℕ)
    (ups : (i : ℕ) → i < S → u i ≡ number_if (up i) (v i))
    (downs : (i : ℕ) → i < S → d i ≡ number_if (not (up i)) (v i))
    (u_encloses : (f : ℕ → Fraction) → weigh_below S u' f ≤ℚ weigh_below S u (P f))
    (d_encloses : (f : ℕ → Fraction) → weigh_below S d' f ≤ℚ weigh_below S d (P f)) where
  split : (b : Bool) (n : ℕ) (x : Fraction) → whole (number_if b n) *ℚ x +ℚ whole (number_if (not b) n) *ℚ x ≡ whole n *ℚ x
  split true n x = simp trivial
  split false n x = simp trivial

  -- both parts together
  pub hour_encloses : (f : ℕ → Fraction) → weigh_below S (λ j. u' j + d' j) f ≤ℚ weigh_below S v (P f)
  hour_encloses f =
      let a : weigh_below S (λ j. u' j + d' j) f ≡ weigh_below S u' f +ℚ weigh_below S d' f =
      ap (total_below S) (fun_ext (λ j. rw (whole-add, add-mul) refl)) ∙ below-add S (λ j. whole (u' j) *ℚ f j) (λ j. whole (d' j) *ℚ f j) in
      let b : weigh_below S u (P f) +ℚ weigh_below S d (P f) ≡ weigh_below S v (P f) =
      sym (below-add S (λ j. whole (u j) *ℚ P f j) (λ j. whole (d j) *ℚ P f j))
      ∙ below-same S _ _ (λ i h. rw (ups i h, downs i h) (split (up i) (v i) (P f i))) in
      rw (a, ← b) (add-le-add _ _ _ _ (u_encloses f) (d_encloses f))

  -- where the tests leave constants and sums
  module _ (constant : (x : Fraction) (i : ℕ) → i < S → P (λ j. x) i ≡ x)
      (adds : (f g : ℕ → Fraction) (i : ℕ) → i < S → P (λ j. f j +ℚ g j) i ≡ P f i +ℚ P g i) where
    -- what is expected of nothing
    nothing : (i : ℕ) → i < S → P (λ j. whole 0) i ≡ whole 0
    nothing i h = constant (whole 0) i h

    up_or_down : (i : ℕ) → i < S → P (λ j. one_if (up j)) i ≡ whole 1 -ℚ P (λ j. one_if (not (up j))) i
    up_or_down i h = rest_of_one _ _ (sym (adds (λ j. one_if (up j)) (λ j. one_if (not (up j))) i h)
        ∙ ap (λ (f : ℕ → Fraction). P f i) (fun_ext (λ j. one (up j)))
        ∙ constant (whole 1) i h)
      where
        one : (b : Bool) → one_if b +ℚ one_if (not b) ≡ whole 1
        one true = add-zero (whole 1)
        one false = zero-add (whole 1)

    -- no more passes than is expected to
    pub passed_least : whole (sum_below S (λ j. number_if (not (up j)) (u' j))) ≤ℚ weigh_below S v (passing_by up P)
    passed_least =
        rw (counted S (λ j. not (up j)) u') (le_trans _ _ _ (u_encloses (λ j. one_if (not (up j))))
        (le_of_same _ _ (below-same S _ _ (λ i h. rw (ups i h) (at (up i) (v i) i h)))))
      where
        at : (b : Bool) (n i : ℕ) → i < S
            → whole (number_if b n) *ℚ P (λ j. one_if (not (up j))) i ≡ whole n *ℚ P (λ j. cond b (one_if (not (up j))) (whole 0)) i
        at true n i h = refl
        at false n i h = rw (nothing i h) (zero-mul _ ∙ sym (mul-zero (whole n)))

    -- and no more of the rest stays than is expected to
    pub passed_most : whole (sum_below S (λ j. number_if (up j) (u' j)) + sum_below S d') ≤ℚ weigh_below S v (λ i. whole 1 -ℚ passing_by up P i)
    passed_most =
        let a : weigh_below S u (P (λ j. one_if (up j))) +ℚ weigh_below S d (P (λ j. whole 1)) ≡ weigh_below S v (λ i. whole 1 -ℚ passing_by up P i) =
        sym (below-add S (λ j. whole (u j) *ℚ P (λ j. one_if (up j)) j) (λ j. whole (d j) *ℚ P (λ j. whole 1) j))
        ∙ below-same S _ _ (λ i h. rw (ups i h, downs i h) (at (up i) (v i) i h)) in
        rw (whole-add, counted S up u', counted_all S d', ← a) (add-le-add _ _ _ _ (u_encloses (λ j. one_if (up j))) (d_encloses (λ j. whole 1)))
      where
        at : (b : Bool) (n i : ℕ) → i < S
            → whole (number_if b n) *ℚ P (λ j. one_if (up j)) i +ℚ whole (number_if (not b) n) *ℚ P (λ j. whole 1) i
            ≡ whole n *ℚ (whole 1 -ℚ P (λ j. cond b (one_if (not (up j))) (whole 0)) i)
        at true n i h = rw (zero-mul, add-zero, up_or_down i h) refl
        at false n i h = rw (nothing i h, constant (whole 1) i h) (simp trivial)

-- what is left open between the two bounds of the passages is what the vector lacks
pub open_passages : (S M : ℕ) (up : ℕ → Bool) (u d : ℕ → ℕ) → sum_below S u + sum_below S d ≤ M →
    (M - (sum_below S (λ j. number_if (up j) (u j)) + sum_below S d)) - sum_below S (λ j. number_if (not (up j)) (u j)) ≡ M - sum_below S (λ j. u j + d j)
open_passages S M up u d h =
    let a : sum_below S (λ j. number_if (up j) (u j) + number_if (not (up j)) (u j)) ≡ sum_below S u = ap (sum_below S) (fun_ext (λ j. one (up j) (u j))) in
    omega (arith, a, sum-add S (λ j. number_if (up j) (u j)) (λ j. number_if (not (up j)) (u j)), sum-add S u d)
  where
    one : (b : Bool) (n : ℕ) → number_if b n + number_if (not b) n ≡ n
    one true n = omega arith
    one false n = omega arith
