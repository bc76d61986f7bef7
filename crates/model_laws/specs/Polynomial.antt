-- Polynomials of a step, and what it means that one stays below a number of beats.
use Rattle.std.specs.Prelude.{◌≡◌, ℕ, ◌≤◌, ◌^◌, List, slice_index}
use Rattle.sil_fraction.specs.Fraction.{Fraction, ◌+ℚ◌, ◌*ℚ◌, ◌≤ℚ◌, whole, inverse}
use Rattle.sil_fraction.specs.Sum.{total_below}
use Rattle.sil_model.specs.Series.{Values, times, beat_of, mean_of}

-- an operator on values that keeps sums, multiples and order
pub record IsLinear {I : Type 0} (T : Values I → Values I) : Type 0 where
  pub adds : (f g : Values I) → T (λ i. f i +ℚ g i) ≡ (λ i. T f i +ℚ T g i)
  pub scales : (c : Fraction) (f : Values I) → T (λ i. c *ℚ f i) ≡ (λ i. c *ℚ T f i)
  pub grows : (f g : Values I) → ((i : I) → f i ≤ℚ g i) → (i : I) → T f i ≤ℚ T g i

-- the sum of c k * x k for k below n
abbrev pub combined : ℕ → (ℕ → Fraction) → (ℕ → Fraction) → Fraction
combined n c x = total_below n (λ k. c k *ℚ x k)

-- the sum of the values before each of the first k steps
abbrev pub sojourn : {I : Type 0} → (Values I → Values I) → ℕ → Values I → Values I
sojourn T k f i = total_below k (λ l. times T l f i)

-- coefficients of a polynomial of the step T that stays below B, whose sojourns stay below D, and whose sum is at most 1
pub record IsBelow {I : Type 0} (T : Values I → Values I) (c : ℕ → Fraction) (B D : Values I → Values I) : Type 0 where
  pub ends : (n : ℕ) (f : Values I) (i : I) → combined n c (λ k. times T k f i) ≤ℚ B f i
  pub sojourns : (n : ℕ) (f : Values I) (i : I) → combined n c (λ k. sojourn T k f i) ≤ℚ D f i
  pub mass : (n : ℕ) → total_below n c ≤ℚ whole 1

-- the sum over n beats G of the mean values M during each
abbrev pub means_of : {I : Type 0} → (Values I → Values I) → (Values I → Values I) → ℕ → Values I → Values I
means_of G M n f i = total_below n (λ j. times G j (M f) i)

-- whole numbers in units of 1 / P
abbrev pub in_units : ℕ → (ℕ → ℕ) → ℕ → Fraction
in_units P X k = whole (X k) *ℚ inverse (whole P)

-- numbers in units of 2^-48 that stay below m beats, for every linear step and every order from this one on
pub record IsBelowBeats (order : ℕ) (numbers : List ℕ) (m : ℕ) : Type 0 where
  pub below : (T : Values ℕ → Values ℕ) → IsLinear T → (N : ℕ) → order ≤ N
      → IsBelow T (in_units (2 ^ 48) (λ k. slice_index numbers k)) (times (beat_of T N) m) (means_of (beat_of T N) (mean_of T N) m)
