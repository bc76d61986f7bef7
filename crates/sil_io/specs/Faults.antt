-- Counts of faults.
use Rattle.std.specs.Prelude.{ℕ, ◌+◌, ◌-◌, ◌^◌, ◌≤◌, min}

-- the count rose by one or more, or stands at its last value
abbrev pub CountsFault : ℕ → ℕ → Type 0
CountsFault before now = min (before + 1) (2 ^ 64 - 1) ≤ now

-- one fault more, or the last value
abbrev pub counted : ℕ → ℕ
counted before = min (before + 1) (2 ^ 64 - 1)
