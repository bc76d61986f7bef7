-- The truncated exponential series, and a beat of any operator on values.
use Rattle.std.specs.Prelude.{ℕ, zero, suc, ◌+◌, ◌*◌, ◌-◌, List}
use Rattle.sil_fraction.specs.Fraction.{Fraction, ◌*ℚ◌, whole, ratio, inverse}
use Rattle.sil_fraction.specs.Sum.{total, total_below}

unfoldable pub factorial : ℕ → ℕ
factorial zero = 1
factorial (suc k) = suc k * factorial k

-- the sum of 1/k! for k from 0 to n
unfoldable pub series_of : ℕ → Fraction
series_of n = total_below (suc n) (λ k. ratio 1 (factorial k))

-- the sum of 1/i! for i from k + 1 to n
unfoldable pub tail_of : ℕ → ℕ → Fraction
tail_of n k = total_below (n - k) (λ i. ratio 1 (factorial (suc (k + i))))

-- a value at each place
abbrev pub Values : Type 0 → Type 0
Values I = I → Fraction

-- g applied k times to x
abbrev pub times : {A : Type 0} → (A → A) → ℕ → A → A
times g zero x = x
times g (suc k) x = g (times g k x)

-- the value after a beat: the sum of 1/k! times the value after k steps, divided by the series
unfoldable pub beat_of : {I : Type 0} → (Values I → Values I) → ℕ → Values I → Values I
beat_of T n f i = total_below (suc n) (λ k. ratio 1 (factorial k) *ℚ times T k f i) *ℚ inverse (series_of n)

-- the mean value during a beat: the sum of the tails times the value after k steps, divided by the sum of the tails
unfoldable pub mean_of : {I : Type 0} → (Values I → Values I) → ℕ → Values I → Values I
mean_of T n f i = total_below n (λ k. tail_of n k *ℚ times T k f i) *ℚ inverse (series_of (n - 1))

-- what a vector of whole numbers weighs by values: the sum of v_i * f_i
abbrev pub weighed : {I : Type 0} → List I → (I → ℕ) → Values I → Fraction
weighed is v f = total (λ i. whole (v i) *ℚ f i) is
