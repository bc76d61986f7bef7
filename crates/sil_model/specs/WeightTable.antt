-- The weights of the numbers of steps in a beat, in units of 2^-48.
use Rattle.std.specs.Prelude.{ℕ, zero, suc, ◌+◌, ◌-◌, ◌/◌, ◌^◌}
use Rattle.sil_fraction.specs.Sum.{sum_below}

-- the floor of 2^48 / (S_40 + 1/(40 * 40!)), which is at most 2^48 over the series of every length
abbrev pub first_weight : ℕ
first_weight = 103_548_857_136_060

-- the weight of k steps: each is the one before divided by k, rounded down
unfoldable pub weight_of : ℕ → ℕ
weight_of zero = first_weight
weight_of (suc k) = weight_of k / suc k

-- the weight of k steps in the mean of a beat: the sum of the weights above that of k, up to the order
unfoldable pub mean_weight_of : ℕ → ℕ → ℕ
mean_weight_of order k = sum_below (order - k) (λ i. weight_of (suc (k + i)))

-- what the weights below the order lack of 2^48
unfoldable pub missing_of : ℕ → ℕ
missing_of order = 2 ^ 48 - sum_below order weight_of
