-- Finite sums: of fractions over a list and below a number, and of whole numbers below a number.
use Rattle.std.specs.Prelude.{ℕ, suc, zero, ◌+◌, List, [], ◌∷◌}
use Rattle.sil_fraction.specs.Fraction.{Fraction, ◌+ℚ◌, whole}

-- the sum of f over the elements of a list
abbrev pub total : {A : Type 0} → (A → Fraction) → List A → Fraction
total f [] = whole 0
total f (x ∷ xs) = f x +ℚ total f xs

-- the sum of f k for k below n
abbrev pub total_below : ℕ → (ℕ → Fraction) → Fraction
total_below zero f = whole 0
total_below (suc n) f = total_below n f +ℚ f n

-- the same of whole numbers
unfoldable pub sum_below : ℕ → (ℕ → ℕ) → ℕ
sum_below zero f = 0
sum_below (suc n) f = sum_below n f + f n
