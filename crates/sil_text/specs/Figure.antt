-- A figure in units of 10^-18, as text.
use Rattle.std.specs.Prelude.{ℕ, ◌+◌, ◌-◌, ◌/◌, ◌%◌, ◌^◌, List, ◌∷◌, ◌++◌, map, decimal}
use Rattle.std.specs.List.{range_with_len}

-- the digit of v at the place of 10^place, in ASCII
abbrev pub digit_at : ℕ → ℕ → ℕ
digit_at v place = 48 + v / 10 ^ place % 10

-- the digits of 10^-1 to 10^-18
abbrev pub digits_behind : ℕ → List ℕ
digits_behind v = map (λ k. digit_at v (17 - k)) (range_with_len 0 18)

-- v units of 10^-18: the whole units, a point, and the digits behind it
unfoldable pub decimal18 : ℕ → List ℕ
decimal18 v = decimal (v / 10 ^ 18) ++ 46 ∷ digits_behind v
