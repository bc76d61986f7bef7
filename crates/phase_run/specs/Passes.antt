-- Some beats of a vector: what it and a dwell become in them.
use Rattle.std.specs.Prelude.{◌≡◌, ℕ, ◌+◌, ◌*◌, ◌^◌, ◌<◌, ◌≤◌, List, length, sum, slice_index}
use Rattle.sil_model.specs.Series.{Values}
use Rattle.sil_model.specs.declared.parts.Subsystem.{Subsystem}
use Rattle.sil_model.specs.Sizes.{states_of}
use Rattle.vector_laws.specs.Block.{IsAfter, IsDwelt}
use Rattle.product_chain.specs.Kept.{ChainValue}
use Rattle.uniformise.specs.Beat.{IsStep, tick_loss}

-- the vector after m beats of a step, at every order from this one on, and the dwell that grew in them, where a beat loses
-- at most `loss`
pub record PassesBy (is_below : (Values ℕ → Values ℕ) → Type 0) (order loss m : ℕ) (before after old new : List ℕ) : Type 0 where
  pub size : length new ≡ length old
  pub ended : IsAfter is_below order m before after
  pub dwelt : IsDwelt is_below order m before old new
  pub kept : sum after ≤ sum before
  pub lack : sum before ≤ sum after + m * loss
  pub dwell_kept : sum new ≤ sum old + m * sum before
  pub dwell_lack : sum old + m * sum before ≤ sum new + m * m * loss
  pub grows : (k : ℕ) → k < length old → (slice_index old k ≤ slice_index new k) × (slice_index new k ≤ slice_index old k + m * 2 ^ 48)

-- beats of a chain
abbrev pub Passes : ChainValue → ℕ → ℕ → ℕ → List ℕ → List ℕ → List ℕ → List ℕ → Type 0
Passes c = PassesBy (IsStep c)

-- what each beat of a block loses, at most: a tick, less than 1 at each number, and what the numbers of the block lack
abbrev pub beat_loss_in_blocks : ℕ → ℕ → ℕ
beat_loss_in_blocks loss size = loss + size + 200

abbrev pub block_beat_loss : List Subsystem → ℕ
block_beat_loss us = beat_loss_in_blocks (tick_loss us) (states_of us)

-- the products of each beat of a block, at most, where a tick makes so many
abbrev pub beat_products_in_blocks : ℕ → ℕ → ℕ
beat_products_in_blocks products size = 16 * products + 33 * size

-- what a vector and its dwell, which began with nothing, lack after m beats is no more than these may lose
pub record LosesLittle (m loss : ℕ) (before after dwelt : List ℕ) : Type 0 where
  pub vector : sum before ≤ sum after + m * loss
  pub dwell : m * sum before ≤ sum dwelt + m * m * loss
