-- Vectors that pass beats, each subsystem for itself.
use Rattle.std.specs.Prelude.{◌≡◌, ℕ, ◌+◌, ◌-◌, ◌*◌, ◌/◌, ◌^◌, ◌<◌, ◌≤◌, List, length, sum, slice_index}
use Rattle.sil_fraction.specs.Fraction.{◌≤ℚ◌}
use Rattle.sil_fraction.specs.Sum.{total_below}
use Rattle.sil_model.specs.Series.{Values}
use Rattle.sil_model.specs.Sizes.{states_of}
use Rattle.vector_laws.specs.Vectors.{weigh}
use Rattle.product_chain.specs.Kept.{ChainValue}
use Rattle.separate_laws.specs.Separate.{separate_beats}
use Rattle.phase_separate.specs.Subsystems.{steps_at, matrix_loss}

module _ (c : ChainValue) where
  -- what is rounded away where all subsystems are passed once, at most
  abbrev pub along_loss : ℕ
  along_loss = length c.of.subsystems * states_of c.of.subsystems

  -- a vector n beats of each subsystem on: what it weighs, and what it lacks where it came to at most t times the whole
  pub record PassesAlong (n : ℕ) (from to : List ℕ) : Type 0 where
    pub size : length to ≡ length from
    pub weighed : (N : ℕ) → 16 ≤ N → (f : Values ℕ) → weigh to f ≤ℚ weigh from (separate_beats (steps_at c) N n f)
    pub kept : sum to ≤ sum from
    pub lack : (t : ℕ) → sum from ≤ t * 2 ^ 48 → sum from ≤ sum to + t * (n * matrix_loss c.of.subsystems) + along_loss

  -- the sum of the vectors at the start of each of n beats
  pub record IsVisited (n : ℕ) (start visited : List ℕ) : Type 0 where
    pub size : length visited ≡ length start
    pub weighed : (N : ℕ) → 16 ≤ N → (f : Values ℕ) → weigh visited f ≤ℚ weigh start (λ i. total_below n (λ j. separate_beats (steps_at c) N j f i))
    pub kept : sum visited ≤ n * sum start
    pub lack : n * sum start + along_loss ≤ sum visited + n * n * matrix_loss c.of.subsystems + n * along_loss

-- each number of `out` is one of a, less m * 2^-46 of what a, b and `lacked` come to, rounded down, and at least 0
pub record IsLowered (m lacked : ℕ) (a b out : List ℕ) : Type 0 where
  pub size : length out ≡ length a
  pub number : (k : ℕ) → k < length a → slice_index out k ≡ (slice_index a k * 2 ^ 46 - m * (slice_index a k + slice_index b k + lacked)) / 2 ^ 46
