-- What a shelf handed out, and what a sink took.
use Rattle.std.specs.Prelude.{◌≡◌, ℕ, ◌<◌, ◌≤◌, ◌++◌, List, [], Option, Some, None, length}

-- the name of the picked file, if one is picked, and the bytes that were read since it was picked, in order
pub record Handed : Type 0 where
  pub name : Option (List ℕ)
  pub bytes : List ℕ

-- no file is picked
abbrev pub nothing_handed : Handed
nothing_handed = record { name = None; bytes = [] }

-- a file of this name was picked, and none of it is read yet
abbrev pub just_picked : List ℕ → Handed
just_picked name = record { name = Some name; bytes = [] }

-- the same file, and these bytes more
abbrev pub handed_more : Handed → List ℕ → Handed
handed_more h more = record { name = h.name; bytes = h.bytes ++ more }

-- more bytes of the file than the limit were handed out
pub record HandsMoreThan (limit : ℕ) (before now : Handed) : Type 0 where
  pub more : List ℕ
  pub long : limit < length more
  pub handed : now ≡ handed_more before more

-- at most so many bytes of the file were handed out
pub record HandsAtMost (limit : ℕ) (before now : Handed) : Type 0 where
  pub more : List ℕ
  pub short : length more ≤ limit
  pub handed : now ≡ handed_more before more

-- of a file of which these bytes were left before, a front was handed out
pub record HandsFrontOf (left : List ℕ) (before now : Handed) : Type 0 where
  pub more : List ℕ
  pub rest : List ℕ
  pub is_front : left ≡ more ++ rest
  pub handed : now ≡ handed_more before more
