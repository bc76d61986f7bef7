-- The laws of m beats at once, by numbers that stay below them: what they bring of a vector, and what they lose.
use Rattle.std.specs.Prelude.{ℕ, ◌+◌, ◌-◌, ◌*◌, ◌/◌, ◌^◌, ◌≤◌, List, length, sum}
use Rattle.sil_fraction.specs.Sum.{sum_below}
use Rattle.sil_model.specs.Series.{Values}
use Rattle.vector_laws.specs.Laws.{AreFloors, IsSumWith}
use Rattle.vector_laws.specs.Block.{tail_at, IsAfter, IsDwelt, IsGathered}

-- what n numbers lack of m
abbrev pub lacking : ℕ → ℕ → (ℕ → ℕ) → ℕ
lacking m n numbers = m * 2 ^ 48 - sum_below n numbers

module _ (is_below : (Values ℕ → Values ℕ) → Type 0) (loss order m n : ℕ) (numbers : ℕ → ℕ) (v : List ℕ) where
  -- `sums` gathers the vectors before each tick by the numbers, and `after` is rounded down from it
  pub record EndsLaw (sums after : List ℕ) : Type 0 where
    pub weighed : IsAfter is_below order m v after
    pub most : sum after ≤ sum v
    pub least : sum v ≤ 2 ^ 48 → sum v ≤ sum after + (lacking 1 n numbers + m * loss + length after)

  -- `sums` gathers them by the tails of the numbers, and is added to `old` rounded down
  pub record DwellLaw (sums floors old new : List ℕ) : Type 0 where
    pub weighed : IsDwelt is_below order m v old new
    pub most : sum new ≤ sum old + m * sum v
    pub least : sum v ≤ 2 ^ 48 → sum old + m * sum v ≤ sum new + (lacking m n (tail_at n numbers) + m * (m + 1) / 2 * loss + length new)

  pub record BlockLaw : Type 0 where
    pub ends : (sums after : List ℕ) → IsGathered is_below loss v sums numbers n → AreFloors (2 ^ 48) sums after → EndsLaw sums after
    pub dwell : (sums floors old new : List ℕ) → IsGathered is_below loss v sums (tail_at n numbers) n → AreFloors (2 ^ 48) sums floors
        → IsSumWith 1 old floors new → DwellLaw sums floors old new
