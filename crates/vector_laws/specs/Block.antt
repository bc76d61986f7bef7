-- What ticks and beats do to a vector, against every linear step that its ticks stay below.
use Rattle.std.specs.Prelude.{ℕ, suc, ◌+◌, ◌-◌, ◌*◌, ◌^◌, ◌≤◌, List, sum}
use Rattle.sil_fraction.specs.Fraction.{◌+ℚ◌, ◌*ℚ◌, ◌≤ℚ◌, whole}
use Rattle.sil_fraction.specs.Sum.{total_below, sum_below}
use Rattle.sil_model.specs.Series.{Values, times, beat_of, mean_of}
use Rattle.model_laws.specs.Polynomial.{IsLinear, IsBelow, means_of, in_units}
use Rattle.vector_laws.specs.Vectors.{weigh}

-- numbers in units of 2^-48 that stay below m beats, for every linear step and every order from this one on
pub record StayBelow (order : ℕ) (numbers : ℕ → ℕ) (m : ℕ) : Type 0 where
  pub below : (T : Values ℕ → Values ℕ) → IsLinear T → (N : ℕ) → order ≤ N
      → IsBelow T (in_units (2 ^ 48) numbers) (times (beat_of T N) m) (means_of (beat_of T N) (mean_of T N) m)

-- for each of n numbers, the sum of those above it
abbrev pub tail_at : ℕ → (ℕ → ℕ) → ℕ → ℕ
tail_at n numbers k = sum_below (n - suc k) (λ i. numbers (suc (k + i)))

module _ (is_below : (Values ℕ → Values ℕ) → Type 0) where
  -- one tick of a vector: what is there after it weighs at most what was there before it, by the values one step on
  pub record IsTick (from to : List ℕ) : Type 0 where
    pub weighed : (T : Values ℕ → Values ℕ) → IsLinear T → is_below T → (f : Values ℕ) → weigh to f ≤ℚ weigh from (T f)

  -- the vector after m beats, at every order from this one on
  pub record IsAfter (order m : ℕ) (before after : List ℕ) : Type 0 where
    pub weighed : (T : Values ℕ → Values ℕ) → IsLinear T → is_below T → (N : ℕ) → order ≤ N
        → (f : Values ℕ) → weigh after f ≤ℚ weigh before (times (beat_of T N) m f)

  -- a dwell to which what the vector dwells in m beats was added
  pub record IsDwelt (order m : ℕ) (before old new : List ℕ) : Type 0 where
    pub weighed : (T : Values ℕ → Values ℕ) → IsLinear T → is_below T → (N : ℕ) → order ≤ N
        → (f : Values ℕ) → weigh new f ≤ℚ weigh old f +ℚ weigh before (means_of (beat_of T N) (mean_of T N) m f)

  -- the vector after k ticks, each of which loses at most `loss`
  pub record IsTicked (loss : ℕ) (v now : List ℕ) (k : ℕ) : Type 0 where
    pub weighed : (T : Values ℕ → Values ℕ) → IsLinear T → is_below T → (f : Values ℕ) → weigh now f ≤ℚ weigh v (times T k f)
    pub least : sum v ≤ sum now + k * loss
    pub most : sum now ≤ sum v

  -- the sum of the vectors before each of n ticks, each times its weight
  pub record IsGathered (loss : ℕ) (v sums : List ℕ) (weight : ℕ → ℕ) (n : ℕ) : Type 0 where
    pub weighed : (T : Values ℕ → Values ℕ) → IsLinear T → is_below T → (f : Values ℕ)
        → weigh sums f ≤ℚ weigh v (λ i. total_below n (λ k. whole (weight k) *ℚ times T k f i))
    pub least : sum v * sum_below n weight ≤ sum sums + loss * sum_below n (λ k. k * weight k)
    pub most : sum sums ≤ sum v * sum_below n weight
