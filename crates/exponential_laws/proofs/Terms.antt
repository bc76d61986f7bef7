-- Two series, one after the other, and the series of the sum: its terms are those of both by the binomial theorem.
use Rattle.std.proofs.Common.{◌≡◌, ℕ, suc, ◌+◌, sym, ap, ◌∙◌, arith}
use Rattle.std.proofs.Math.Nat.{add-zero as nat-add-zero}
use mathlib.Core.Path.{fun_ext}
use Rattle.sil_fraction.specs.Fraction.{Fraction, ◌*ℚ◌, ◌≤ℚ◌}
use Rattle.sil_fraction.specs.Sum.{total_below}
use Rattle.sil_fraction.proofs.Laws.{mul_assoc}
use Rattle.sil_fraction.proofs.Sums.{mul-below}
use Rattle.sil_model.specs.Series.{Values, times}
use Rattle.model_laws.specs.Polynomial.{IsLinear}
use Rattle.model_laws.proofs.Operators.{times-linear}
use Rattle.exponential_laws.specs.Exponential.{exponential_of, both, Commute}
use Rattle.exponential_laws.specs.Laws.{ExponentialLaw}
use Rattle.exponential_laws.proofs.Sums.{triangle, box, box-le-triangle, triangle-le-box}
use Rattle.exponential_laws.proofs.Steps.{linear-weighed, same-at}
use Rattle.exponential_laws.proofs.Binomial.{term, binomial}

module _ (X Y : Values ℕ → Values ℕ) (x : IsLinear X) (y : IsLinear Y) (c : Commute X Y) where
  -- the values of the term of a steps X after b steps Y
  pair : Values ℕ → ℕ → ℕ → ℕ → Fraction
  pair f i a b = (term a *ℚ term b) *ℚ times X a (times Y b f) i

  -- the series of the sum is a triangle
  sum-triangle : (n : ℕ) (f : Values ℕ) (i : ℕ) → exponential_of (both X Y) n f i ≡ triangle (suc n) (pair f i)
  unfolding exponential_of pair
  sum-triangle n f i = ap (total_below (suc n)) (fun_ext (λ k. binomial X Y x y c.either k f i))

  -- the two series one after the other are a box
  product-box : (j l : ℕ) (f : Values ℕ) (i : ℕ) → exponential_of X j (exponential_of Y l f) i ≡ box (suc j) (suc l) (pair f i)
  unfolding exponential_of pair
  product-box j l f i =
      ap (total_below (suc j)) (fun_ext (λ a.
      ap (λ s. term a *ℚ s) (same-at (linear-weighed (times X a) (times-linear X x a) (suc l) term (λ b. times Y b f)) i)
      ∙ mul-below (suc l) _ _
      ∙ ap (total_below (suc l)) (fun_ext (λ b. sym (mul_assoc _ _ _)))))

  pub exponential_law : ExponentialLaw X Y
  exponential_law = record { below = lower; above = upper }
    where
      lower : (j l : ℕ) (f : Values ℕ) (i : ℕ) → exponential_of X j (exponential_of Y l f) i ≤ℚ exponential_of (both X Y) (j + l) f i
      lower j l f i =
          let e : suc j + l ≡ suc (j + l) = omega arith in
          rw (product-box j l f i, sum-triangle (j + l) f i) (rw e at (box-le-triangle (suc j) l (pair f i)))

      upper : (n : ℕ) (f : Values ℕ) (i : ℕ) → exponential_of (both X Y) n f i ≤ℚ exponential_of X n (exponential_of Y n f) i
      upper n f i = rw (product-box n n f i, sum-triangle n f i) (rw nat-add-zero at (triangle-le-box (suc n) 0 (pair f i)))
