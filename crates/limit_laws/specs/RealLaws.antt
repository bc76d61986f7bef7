-- The laws of real numbers: what is said of them means what it should.
use Rattle.std.specs.Prelude.{◌≡◌, ℕ, ◌≤◌}
use Rattle.sil_fraction.specs.Fraction.{Fraction, ◌+ℚ◌, ◌≤ℚ◌}
use Rattle.limit_laws.specs.Real.{Real, IsBetween, IsNearReal, IsSame, Approaches, real_of}

pub record RealLaws : Type 0 where
  -- a number is approached by its own fractions
  pub approached : (r : Real) → Approaches r.at r
  -- bounds that a sequence keeps from some place on are bounds of the number that it approaches
  pub bounds_kept : (lo hi : Fraction) (x : ℕ → Fraction) (r : Real) → Approaches x r → (place : ℕ)
      → ((n : ℕ) → place ≤ n → lo ≤ℚ x n) → ((n : ℕ) → place ≤ n → x n ≤ℚ hi) → IsBetween lo hi r
  -- they are bounds of the number, and not of the sequence that stands for it
  pub bounds_of_number : (lo hi : Fraction) (r s : Real) → IsSame r s → IsBetween lo hi r → IsBetween lo hi s
  -- a sequence approaches one number alone, whichever sequence stands for it
  pub one_limit : (x : ℕ → Fraction) (r s : Real) → Approaches x r → Approaches x s → IsSame r s
  pub same_limit : (x : ℕ → Fraction) (r s : Real) → IsSame r s → Approaches x r → Approaches x s
  -- to be the same number is an equivalence, and two fractions are the same number only if they are equal
  pub same_itself : (r : Real) → IsSame r r
  pub same_turned : (r s : Real) → IsSame r s → IsSame s r
  pub same_chained : (r s t : Real) → IsSame r s → IsSame s t → IsSame r t
  pub one_fraction : (p q : Fraction) → IsSame (real_of p) (real_of q) → p ≡ q
  -- of a fraction they say what the order of fractions says
  pub fraction_bounds : (lo hi q : Fraction) → IsBetween lo hi (real_of q) → (lo ≤ℚ q) × (q ≤ℚ hi)
  -- a number between lo and hi shows that lo is at most hi
  pub not_empty : (lo hi : Fraction) (r : Real) → IsBetween lo hi r → lo ≤ℚ hi
  -- a number that differs by at most d from q is at most q + d, and at least each lo with lo + d at most q
  pub near_bounds : (lo d q : Fraction) (r : Real) → lo +ℚ d ≤ℚ q → IsNearReal d q r → IsBetween lo (q +ℚ d) r
