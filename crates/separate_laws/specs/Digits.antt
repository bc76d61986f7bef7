-- Numbers with a digit that a step changes, and nothing else of them.
use Rattle.std.specs.Prelude.{◌≡◌, ℕ, ◌+◌, ◌*◌, ◌/◌, ◌%◌, ◌^◌, ◌<◌, List, length, slice_index}
use Rattle.sil_fraction.specs.Sum.{sum_below}
use Rattle.sil_model.specs.Series.{Values}
use Rattle.vector_laws.specs.Matrix.{Matrix, entry_of}

module _ (stride base : ℕ) where
  -- the digit of this stride and this base
  abbrev pub digit_of : ℕ → ℕ
  digit_of i = i / stride % base

  -- the number with another digit there
  abbrev pub with_digit : ℕ → ℕ → ℕ
  with_digit i b = i % stride + stride * b + stride * base * (i / (stride * base))

  -- a step of that digit alone
  abbrev pub along : (Values ℕ → Values ℕ) → Values ℕ → Values ℕ
  along T f i = T (λ b. f (with_digit i b)) (digit_of i)

-- each number of `out` is what a matrix, in units of 2^-48, brings along that digit, rounded down
pub record IsAlongDown (stride : ℕ) (m : Matrix) (v out : List ℕ) : Type 0 where
  pub size : length out ≡ length v
  pub floor : (j : ℕ) → j < length v → slice_index out j
      ≡ sum_below m.size (λ a. slice_index v (with_digit stride m.size j a) * entry_of m a (digit_of stride m.size j)) / 2 ^ 48
