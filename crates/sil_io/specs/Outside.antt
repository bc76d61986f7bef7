-- Files and the standard output, as contracts see them: which bytes they hold only those can tell that tell it, but which
-- were read and written is known of all.
use Rattle.std.specs.Prelude.{ℕ, Bool, List, Option, None, if◌then◌else◌, take}
use Rattle.std.specs.Io.KnownBytes.{Appends}
use Rattle.std.specs.List.{concat, last_or}
use Rattle.sil_io.specs.Handed.{Handed}

-- a shelf of real files
pub record FilesState : Type 0 where
  -- whether a file is picked
  pub picked : Bool
  -- the bytes that reads of the open file will give, where it tells them
  pub remaining : Option (List ℕ)
  pub handed : Handed
  -- the names that were asked for, in order
  pub tried : List (List ℕ)
  -- whether the last pick failed, or a read after it did
  pub failed : Bool
  pub faults : ℕ

-- what was handed out: by whether a file is picked, by the names that were asked for, and by the pieces that were read
abbrev pub handed_by : Bool → List (List ℕ) → List (List ℕ) → Handed
handed_by picked tried pieces = record { name = if picked then last_or None tried else None; bytes = concat pieces }

-- a writer, as the standard output is one
pub record OutState : Type 0 where
  -- the bytes that the writer holds, where it tells them
  pub held : Option (List ℕ)
  -- the bytes that a write answered to have taken
  pub taken : List ℕ
  -- the pieces that were offered, in order
  pub offered : List (List ℕ)
  -- whether the last call was a write that took nothing of a piece that is not empty
  pub stalled : Bool
  -- whether the last call was a write that failed, or noted a stall
  pub failed : Bool
  pub faults : ℕ

-- a writer that tells what it holds, holds what it held and then a front of the bytes, which may be none of them or all
abbrev pub AppendsFront : Option (List ℕ) → Option (List ℕ) → List ℕ → Type 0
AppendsFront before now bytes = (size : ℕ) × Appends before now (take size bytes)
