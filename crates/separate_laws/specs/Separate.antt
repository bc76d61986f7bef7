-- Beats of several steps that commute, each for itself, one after another.
use Rattle.std.specs.Prelude.{◌≡◌, ◌⊎◌, ℕ, suc, ◌+◌, ◌-◌, ◌*◌, ◌^◌, ◌<◌, ◌≤◌, List, [], ◌∷◌, length, sum, slice_index, All, AllPairs}
use Rattle.sil_fraction.specs.Fraction.{◌+ℚ◌, ◌*ℚ◌, ◌≤ℚ◌, whole}
use Rattle.sil_fraction.specs.Sum.{total, total_below, sum_below}
use Rattle.sil_model.specs.Series.{Values, times, beat_of}
use Rattle.model_laws.specs.Polynomial.{IsLinear}
use Rattle.lumped_laws.specs.LinearLists.{KeepsConstants}
use Rattle.vector_laws.specs.Vectors.{weigh}
use Rattle.exponential_laws.specs.Exponential.{Commute}
use Rattle.separate_laws.specs.DigitLaws.{StaysBelow}

-- the values after m beats of each step
abbrev pub separate_beats : List (Values ℕ → Values ℕ) → ℕ → ℕ → Values ℕ → Values ℕ
separate_beats [] N m f = f
separate_beats (P ∷ Ps) N m f = times (beat_of P N) m (separate_beats Ps N m f)

-- linear steps that commute and come together to T at the numbers below n: what each changes adds up to what T changes
pub record AreSeparate (n : ℕ) (T : Values ℕ → Values ℕ) (Ps : List (Values ℕ → Values ℕ)) : Type 0 where
  pub few : length Ps ≤ 6
  pub linear : All IsLinear Ps
  pub commute : AllPairs Commute Ps
  pub keep : All KeepsConstants Ps
  pub stay : All (StaysBelow n) Ps
  pub changes : (f : Values ℕ) (i : ℕ) → i < n → total (λ P. P f i) Ps +ℚ f i ≡ T f i +ℚ whole (length Ps) *ℚ f i

-- what is expected over some numbers of beats, of which j comes c j times, up to m
module _ (m : ℕ) (c : ℕ → ℕ) where
  abbrev pub expected_over : (ℕ → Values ℕ → Values ℕ) → Values ℕ → Values ℕ
  expected_over g f i = total_below (suc m) (λ j. whole (c j) *ℚ g j f i)

  abbrev pub all_over : ℕ
  all_over = sum_below (suc m) c

  -- a vector is below what v comes to, by separate beats of every order from 16 on, and of so many beats more
  pub record IsBelowSeparate (Ps : List (Values ℕ → Values ℕ)) (more : ℕ) (v a : List ℕ) : Type 0 where
    pub weighed : (N : ℕ) → 16 ≤ N → (f : Values ℕ) → weigh a f ≤ℚ weigh v (expected_over (λ j. separate_beats Ps N (j + more)) f)

  -- what a and b lack of all of v, and a little more
  abbrev pub lacked : List ℕ → List ℕ → List ℕ → ℕ
  lacked v a b = (all_over * sum v - sum a) + (all_over * sum v - sum b) + 16 * all_over * (m + 16)

  -- each number of a, less m * 2^-46 of what at most is there 16 beats before and after
  pub record IsReduced (v a b out : List ℕ) : Type 0 where
    pub size : length out ≡ length a
    pub numbers : (k : ℕ) → k < length a → (slice_index out k ≡ 0)
        ⊎ (slice_index out k * 2 ^ 46 + m * (slice_index a k + slice_index b k + lacked v a b) ≤ slice_index a k * 2 ^ 46)
