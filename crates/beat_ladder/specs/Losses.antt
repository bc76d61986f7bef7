-- What a block of beats may lose, and how many products it takes.
use Rattle.std.specs.Prelude.{◌≡◌, ℕ, ◌+◌, ◌*◌, ◌/◌}
use Rattle.sil_model.specs.Series.{Values}
use Rattle.beat_ladder.specs.Powers.{most_missing}

-- the one step of values that a tick stays below
abbrev pub IsStep : (Values ℕ → Values ℕ) → (Values ℕ → Values ℕ) → Type 0
IsStep step T = T ≡ step

-- what a vector of a size loses in so many beats, where a tick loses so much: what the numbers lack, one tick for each beat
-- in the mean, and less than 1 at each place
abbrev pub block_loss : ℕ → ℕ → ℕ → ℕ
block_loss beats loss size = most_missing * beats + beats * loss + size

-- what its dwell lacks: what the tails lack, the ticks from when they are made on, and less than 1 at each place
abbrev pub block_dwell_loss : ℕ → ℕ → ℕ → ℕ
block_dwell_loss beats loss size = most_missing * (beats * beats) + beats * (beats + 1) / 2 * loss + size

-- the products of so many beats, where a tick makes so many: at most 16 ticks for each beat, and two at each place for each
-- tick and for the vector at the end, but for one tail that is 0
abbrev pub block_products : ℕ → ℕ → ℕ → ℕ
block_products beats products size = 16 * beats * products + (32 * beats + 1) * size
