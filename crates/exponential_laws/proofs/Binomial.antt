-- The terms of two series, one after the other, and those of the series of the sum: the binomial theorem.
use Rattle.std.proofs.Common.{◌≡◌, ℕ, zero, suc, ◌*◌, refl, sym, ap, ◌∙◌, arith}
use Rattle.std.proofs.Math.Nat.{mul-pos}
use mathlib.Core.Path.{fun_ext}
use Rattle.sil_fraction.specs.Fraction.{Fraction, ◌*ℚ◌, whole, ratio}
use Rattle.sil_fraction.proofs.Laws.{mul_comm, mul_assoc, one-mul, front, whole-mul, mul-inverse, ratio-mul, ratio-same, whole-ratio}
use Rattle.sil_fraction.proofs.Sums.{whole-positive, inverse-one}
use Rattle.sil_model.specs.Series.{Values, times, factorial}
use Rattle.model_laws.specs.Polynomial.{IsLinear}
use Rattle.model_laws.proofs.Series.{factorial_pos}
use Rattle.exponential_laws.specs.Exponential.{both}
use Rattle.exponential_laws.proofs.Sums.{diagonal, diagonal-same, diagonal-counted}
use Rattle.exponential_laws.proofs.Steps.{same-at, both-linear}

-- the term of the series at n
abbrev pub term : ℕ → Fraction
term n = ratio 1 (factorial n)

-- n + 1 times 1/(n + 1)!
pub next_term : (n : ℕ) → whole (suc n) *ℚ term (suc n) ≡ term n
unfolding factorial
next_term n = rw (whole-ratio (suc n), ratio-mul (suc n) 1 1 (suc n * factorial n) (omega arith) (mul-pos (omega arith) (factorial_pos n)))
    (ratio-same _ _ _ _ (mul-pos (omega arith) (mul-pos (omega arith) (factorial_pos n))) (factorial_pos n) (omega arith))

-- one divided by a! and by b!
part : ℕ → ℕ → Fraction
part a b = term a *ℚ term b

part-left : (a b : ℕ) (x : Fraction) → whole (suc a) *ℚ (part (suc a) b *ℚ x) ≡ part a b *ℚ x
unfolding part
part-left a b x = sym (mul_assoc _ _ _) ∙ ap (λ s. s *ℚ x) (sym (mul_assoc _ _ _) ∙ ap (λ s. s *ℚ term b) (next_term a))

part-right : (a b : ℕ) (x : Fraction) → whole (suc b) *ℚ (part a (suc b) *ℚ x) ≡ part a b *ℚ x
unfolding part
part-right a b x = sym (mul_assoc _ _ _) ∙ ap (λ s. s *ℚ x) (front _ _ _ ∙ ap (λ s. term a *ℚ s) (next_term b))

-- n! times 1/n!
undone : (n : ℕ) (x : Fraction) → term n *ℚ (whole (factorial n) *ℚ x) ≡ x
undone n x =
    sym (mul_assoc _ _ _)
    ∙ ap (λ s. s *ℚ x) (ap (λ s. s *ℚ whole (factorial n)) (one-mul _) ∙ mul_comm _ _ ∙ mul-inverse _ (whole-positive _ (factorial_pos n)))
    ∙ one-mul x

-- a linear step goes into a diagonal sum of multiples
linear-diagonal : {I : Type 0} (T : Values I → Values I) → IsLinear T → (k : ℕ) (c : ℕ → ℕ → Fraction) (g : ℕ → ℕ → Values I)
    → T (λ i. diagonal k (λ a b. c a b *ℚ g a b i)) ≡ (λ i. diagonal k (λ a b. c a b *ℚ T (g a b) i))
linear-diagonal T t zero c g = t.scales (c 0 0) (g 0 0)
linear-diagonal T t (suc k) c g =
    t.adds (λ i. c 0 (suc k) *ℚ g 0 (suc k) i) (λ i. diagonal k (λ a b. c (suc a) b *ℚ g (suc a) b i))
    ∙ fun_ext (λ i. cc (
      same-at (t.scales (c 0 (suc k)) (g 0 (suc k))) i,
      same-at (linear-diagonal T t k (λ a b. c (suc a) b) (λ a b. g (suc a) b)) i,
    ))

module _ {I : Type 0} (X Y : Values I → Values I) (x : IsLinear X) (y : IsLinear Y) (commute : (f : Values I) → X (Y f) ≡ Y (X f)) where
  past : (a : ℕ) (f : Values I) → times X a (Y f) ≡ Y (times X a f)
  past zero f = refl
  past (suc a) f = ap X (past a f) ∙ commute (times X a f)

  -- the terms of degree k
  degree : ℕ → Values I → Values I
  degree k f i = diagonal k (λ a b. part a b *ℚ times X a (times Y b f) i)

  degree-next : (k : ℕ) (f : Values I) (i : I) → whole (suc k) *ℚ degree (suc k) f i ≡ both X Y (degree k f) i
  unfolding degree
  degree-next k f i =
      diagonal-counted k (λ a b. part a b *ℚ times X a (times Y b f) i)
      ∙ cc (
        diagonal-same k _ _ (λ a b _. part-left a b (times X (suc a) (times Y b f) i)),
        same-at (linear-diagonal X x k part (λ a b. times X a (times Y b f))) i,
        diagonal-same k _ _ (λ a b _. part-right a b (times X a (times Y (suc b) f) i) ∙ ap (λ s. part a b *ℚ s) (same-at (past a (times Y b f)) i)),
        same-at (linear-diagonal Y y k part (λ a b. times X a (times Y b f))) i,
      )

  degree-times : (k : ℕ) (f : Values I) (i : I) → whole (factorial k) *ℚ degree k f i ≡ times (both X Y) k f i
  unfolding degree part factorial
  degree-times zero f i = one-mul _ ∙ ap (λ s. s *ℚ f i) (ap (λ s. s *ℚ s) (one-mul _ ∙ inverse-one) ∙ one-mul _) ∙ one-mul _
  degree-times (suc k) f i =
      ap (λ s. s *ℚ degree (suc k) f i) (whole-mul (suc k) (factorial k) ∙ mul_comm _ _) ∙ mul_assoc _ _ _
      ∙ ap (λ s. whole (factorial k) *ℚ s) (degree-next k f i)
      ∙ same-at (sym ((both-linear X Y x y).scales (whole (factorial k)) (degree k f))) i
      ∙ ap (λ (h : Values I). both X Y h i) (fun_ext (degree-times k f))

  -- the term of degree k in the series of the sum
  pub binomial : (k : ℕ) (f : Values I) (i : I)
      → term k *ℚ times (both X Y) k f i ≡ diagonal k (λ a b. (term a *ℚ term b) *ℚ times X a (times Y b f) i)
  unfolding degree part
  binomial k f i = ap (λ s. term k *ℚ s) (sym (degree-times k f i)) ∙ undone k _
