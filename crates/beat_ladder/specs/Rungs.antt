-- The rungs of a ladder, and which of them may be used.
use Rattle.std.specs.Prelude.{◌≡◌, ℕ, ◌<◌, ◌≤◌, List, length, slice_index_or}
use Rattle.beat_ladder.specs.Powers.{IsClose}
use Rattle.beat_ladder.specs.declared.rung.Rung.{Rung}

-- a rung that lacks so little that it may be used
abbrev pub IsUsable : Rung → Type 0
IsUsable r = IsClose r.exponent r.low r.numbers.items r.tails.items

-- the rung at each place is that of the exponent of its place, and may be used
pub record AreRungs (rungs : List Rung) : Type 0 where
  pub few : length rungs ≤ 13
  pub exponents : (k : ℕ) (other : Rung) → k < length rungs → (slice_index_or rungs k other).exponent ≡ k
  pub usable : (k : ℕ) (other : Rung) → k < length rungs → IsUsable (slice_index_or rungs k other)
