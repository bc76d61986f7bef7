-- The numbers of 2^e beats, in units of 2^-48: each time the polynomial of the ticks times itself, rounded down.
use Rattle.std.specs.Prelude.{◌≡◌, ℕ, zero, suc, ◌+◌, ◌-◌, ◌*◌, ◌/◌, ◌^◌, ◌<◌, ◌≤◌, List, length, drop, sum, slice_index}
use Rattle.sil_fraction.specs.Sum.{sum_below}
use Rattle.sil_model.specs.WeightTable.{weight_of}

-- the number at k of the product of a polynomial with itself
unfoldable pub square_at : (ℕ → ℕ) → ℕ → ℕ
square_at x k = sum_below (suc k) (λ i. x i * x (k - i))

-- the number of k ticks in 2^e beats: the weights of one beat, and from there on each time the square, rounded down
unfoldable pub power_of : ℕ → ℕ → ℕ
power_of zero k = weight_of k
power_of (suc e) k = square_at (power_of e) k / 2 ^ 48

-- the number at a place, and 0 past the end
abbrev pub at_place : List ℕ → ℕ → ℕ
at_place numbers k = slice_index numbers k

-- the numbers of 2^e beats, but for zeros before `low` and at the end
pub record HoldsPower (e low : ℕ) (numbers : List ℕ) : Type 0 where
  pub before : (k : ℕ) → k < low → power_of e k ≡ 0
  pub holds : (k : ℕ) → k < length numbers → slice_index numbers k ≡ power_of e (low + k)
  pub after : (k : ℕ) → low + length numbers ≤ k → power_of e k ≡ 0
  pub few : low + length numbers ≤ 16 * 2 ^ e + 1
  pub some : 0 < length numbers

-- for each number, the sum of those above it
pub record HoldTails (numbers tails : List ℕ) : Type 0 where
  pub same : length tails ≡ length numbers
  pub holds : (k : ℕ) → k < length numbers → slice_index tails k ≡ sum (drop (k + 1) numbers)

-- what the numbers of a rung may lack for each beat, and their tails for each pair of beats
abbrev pub most_missing : ℕ
most_missing = 200

-- the numbers of 2^e beats, stored from `low` on, lack little of 1, and their tails little of the beats
pub record IsClose (e low : ℕ) (numbers tails : List ℕ) : Type 0 where
  pub ends : 2 ^ 48 ≤ sum numbers + most_missing * 2 ^ e
  pub stays : 2 ^ e * 2 ^ 48 ≤ low * sum numbers + sum tails + most_missing * 4 ^ e

-- the numbers of 2^e beats lack so little of 1, and their tails of the beats, that they may stand for the beats
pub record MayServe (e : ℕ) : Type 0 where
  pub ends : 2 ^ 48 ≤ sum_below (16 * 2 ^ e + 1) (power_of e) + most_missing * 2 ^ e
  pub stays : 2 ^ e * 2 ^ 48 ≤ sum_below (16 * 2 ^ e + 1) (λ k. power_of e k * k) + most_missing * 4 ^ e
