-- Values below a number, as a sum of multiples of those that are 1 at one place, and what linear steps make of it.
use Rattle.std.proofs.Common.{◌≡◌, ℕ, zero, suc, ◌<◌, refl, sym, ap, ◌∙◌, arith, inl, inr}
use Rattle.std.proofs.lemmas.Bool.{cases_lt}
use mathlib.Core.Path.{fun_ext}
use Rattle.sil_fraction.specs.Fraction.{Fraction, ◌+ℚ◌, ◌*ℚ◌, whole}
use Rattle.sil_fraction.specs.Sum.{total_below}
use Rattle.sil_fraction.proofs.Laws.{mul_comm, zero-add}
use Rattle.sil_fraction.proofs.Sums.{add-zero, mul-one, mul-zero, below-same, below-constant}
use Rattle.sil_model.specs.Series.{Values}
use Rattle.model_laws.specs.Polynomial.{IsLinear}
use Rattle.model_laws.proofs.Operators.{summed}
use Rattle.separate_laws.specs.DigitLaws.{StaysBelow}

-- 1 at the place c, and 0 elsewhere
abbrev pub one_at : ℕ → Values ℕ
one_at zero zero = whole 1
one_at zero (suc i) = whole 0
one_at (suc c) zero = whole 0
one_at (suc c) (suc i) = one_at c i

one-there : (c : ℕ) → one_at c c ≡ whole 1
one-there zero = refl
one-there (suc c) = one-there c

zero-before : (c i : ℕ) → i < c → one_at c i ≡ whole 0
zero-before zero i h = absurd (omega arith)
zero-before (suc c) zero h = refl
zero-before (suc c) (suc i) h = zero-before c i (omega arith)

zero-after : (c i : ℕ) → c < i → one_at c i ≡ whole 0
zero-after c zero h = absurd (omega arith)
zero-after zero (suc i) h = refl
zero-after (suc c) (suc i) h = zero-after c i (omega arith)

-- each value below n is the sum of these
pub sum-of-units : (n : ℕ) (f : Values ℕ) (i : ℕ) → i < n → total_below n (λ c. f c *ℚ one_at c i) ≡ f i
sum-of-units zero f i h = absurd (omega arith)
sum-of-units (suc n) f i h = elim (cases_lt i n) [
  | inl g ↦
      let before : Fraction = total_below n (λ c. f c *ℚ one_at c i) in
      ap (λ x. before +ℚ f n *ℚ x) (zero-before n i g) ∙ ap (λ x. before +ℚ x) (mul-zero (f n)) ∙ add-zero before ∙ sum-of-units n f i g
  | inr g ↦
      let e : i ≡ n = omega arith in
      let none : total_below n (λ c. f c *ℚ one_at c n) ≡ whole 0 =
      below-same n _ (λ c. whole 0) (λ c p. ap (λ x. f c *ℚ x) (zero-after c n p) ∙ mul-zero (f c)) ∙ below-constant n (whole 0) ∙ mul-zero (whole n) in
      rw e (ap (λ x. x +ℚ f n *ℚ one_at n n) none ∙ zero-add _ ∙ ap (λ x. f n *ℚ x) (one-there n) ∙ mul-one (f n))
]

-- a linear step that stays below n is a sum of multiples of the values below n
module _ (n : ℕ) (U : Values ℕ → Values ℕ) (linear : IsLinear U) (stays : StaysBelow n U) where
  pub by-units : (f : Values ℕ) (i : ℕ) → i < n → U f i ≡ total_below n (λ c. f c *ℚ U (one_at c) i)
  by-units f i p =
      stays.same f (λ j. total_below n (λ c. f c *ℚ one_at c j)) (λ j q. sym (sum-of-units n f j q)) i p
      ∙ ap (λ (v : Values ℕ). v i) (summed U linear n (λ c j. f c *ℚ one_at c j))
      ∙ ap (total_below n) (fun_ext (λ c. ap (λ (v : Values ℕ). v i) (linear.scales (f c) (one_at c))))

  -- and it does not matter whether it or another linear step comes first
  module _ (T : Values ℕ → Values ℕ) (other : IsLinear T) where
    pub exchanged : (g : ℕ → Values ℕ) (i j : ℕ) → j < n → T (λ x. U (g x) j) i ≡ U (λ y. T (λ x. g x y) i) j
    exchanged g i j p =
        ap (λ (f : Values ℕ). T f i) (fun_ext (λ x. by-units (g x) j p ∙ ap (total_below n) (fun_ext (λ c. mul_comm (g x c) (U (one_at c) j)))))
        ∙ ap (λ (v : Values ℕ). v i) (summed T other n (λ c x. U (one_at c) j *ℚ g x c))
        ∙ ap (total_below n) (fun_ext (λ c. ap (λ (v : Values ℕ). v i) (other.scales (U (one_at c) j) (λ x. g x c)) ∙ mul_comm (U (one_at c) j) _))
        ∙ sym (by-units (λ y. T (λ x. g x y) i) j p)
