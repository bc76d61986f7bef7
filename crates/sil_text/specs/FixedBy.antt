-- The text of a number fixes the number, and where it ends.
use Rattle.std.specs.Prelude.{◌≡◌, ℕ, ◌<◌, ◌^◌, ◌⊎◌, List, [], ◌∷◌, ◌++◌, decimal}
use Rattle.sil_text.specs.Figure.{decimal18}

-- a text that does not begin with a digit, so that a number before it has ended
abbrev pub BeginsWithNoDigit : List ℕ → Type 0
BeginsWithNoDigit [] = Unit {0}
BeginsWithNoDigit (byte ∷ bytes) = (byte < 48) ⊎ (57 < byte)

-- One text stands for one number: two texts that begin with a number and are equal begin with the same number, and go on alike.
-- The numbers have at most 64 digits before the point, as many as `decimal` writes.
pub record TextsFixNumbers : Type 0 where
  -- behind a whole number stands no further digit, which could be taken for one of its own: a line feed, say, or nothing
  pub whole : (m n : ℕ) (rest_m rest_n : List ℕ) → m < 10 ^ 64 → n < 10 ^ 64 → BeginsWithNoDigit rest_m → BeginsWithNoDigit rest_n
      → decimal m ++ rest_m ≡ decimal n ++ rest_n → (m ≡ n) × (rest_m ≡ rest_n)
  -- a figure has eighteen digits behind its point, so that whatever is written behind it is taken for no more of them
  pub figure : (v w : ℕ) (rest_v rest_w : List ℕ) → v < 10 ^ 82 → w < 10 ^ 82
      → decimal18 v ++ rest_v ≡ decimal18 w ++ rest_w → (v ≡ w) × (rest_v ≡ rest_w)
