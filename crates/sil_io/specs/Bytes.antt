-- What was offered and what was written of a text.
use Rattle.std.specs.Prelude.{◌≡◌, ℕ, ◌<◌, ◌++◌, ◌∷◌, List, [], map, take, drop, length}
use Rattle.std.specs.List.{All, AllPairs}

-- a part of the text from its start on, and not all of it, was appended
pub record AppendsPart (before now text : List ℕ) : Type 0 where
  pub size : ℕ
  pub not_all : size < length text
  pub appended : now ≡ before ++ take size text

-- The text was offered in one piece, and then only what was left of it: each later piece is all that is left behind a
-- longer front of the text than the piece before, and no piece is empty.
pub record OffersWhole (text : List ℕ) (before now : List (List ℕ)) : Type 0 where
  -- how many bytes of the text lie before each later piece
  pub fronts : List ℕ
  pub longer : AllPairs (λ front next. front < next) (0 ∷ fronts)
  pub not_all : All (λ front. front < length text) (0 ∷ fronts)
  pub offered : now ≡ before ++ map (λ front. drop front text) (0 ∷ fronts)

-- a front of the text was taken, and what was offered last is all that was left of it
pub record StopsAtRest (text before now : List ℕ) (offered : List (List ℕ)) : Type 0 where
  pub size : ℕ
  pub taken : now ≡ before ++ take size text
  pub earlier : List (List ℕ)
  pub last : offered ≡ earlier ++ drop size text ∷ []
