-- What is read of a file that is being read, and what is left.
use Rattle.std.specs.Prelude.{ℕ, ◌<◌, ◌≤◌, List, [], Option, Some, None, length, take, drop}
use Rattle.sil_io.specs.Handed.{Handed, nothing_handed}
use Rattle.sil_io.specs.ShelfState.{NamedBytes, name_at, bytes_at}
use Rattle.sil_io.specs.declared.memory_shelf.Reading.{Reading}

-- the bytes of the picked file that are not read yet
abbrev pub left_of : List NamedBytes → Option Reading → List ℕ
left_of fs None = []
left_of fs (Some r) = drop r.read (bytes_at fs r.place)

-- the picked file, and its bytes that are read
abbrev pub handed_of : List NamedBytes → Option Reading → Handed
handed_of fs None = nothing_handed
handed_of fs (Some r) = record { name = Some (name_at fs r.place); bytes = take r.read (bytes_at fs r.place) }

-- the picked file is there, and no more of it is read than it has
abbrev pub IsReading : List NamedBytes → Option Reading → Type 0
IsReading fs None = Unit {0}
IsReading fs (Some r) = (r.place < length fs) × (r.read ≤ length (bytes_at fs r.place))
