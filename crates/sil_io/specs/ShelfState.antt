-- A shelf in memory, as contracts see it.
use Rattle.std.specs.Prelude.{◌≡◌, ℕ, ◌+◌, ◌-◌, ◌^◌, ◌<◌, ◌≤◌, List, [], Option, Some, None, Bool, false, slice_get, option_map, unwrap_or, min, IfSome}
use Rattle.std.specs.List.{find}
use Rattle.std.specs.Str.{bytes_eq}
use Rattle.sil_io.specs.Handed.{Handed}
use Rattle.sil_io.specs.declared.memory_shelf.Plan.{Plan}

-- a file: its name and its bytes
pub record NamedBytes : Type 0 where
  pub name : List ℕ
  pub bytes : List ℕ

pub record ShelfState : Type 0 where
  pub files : List NamedBytes
  -- whether a file is picked, and its bytes that are not read yet
  pub picked : Bool
  pub left : List ℕ
  -- what was read since
  pub handed : Handed
  -- the names that were asked for, in order
  pub tried : List (List ℕ)
  -- the faults that are planned
  pub plan : Plan
  -- whether the last pick failed, or a read after it did
  pub failed : Bool
  pub faults : ℕ

-- nothing is planned, and nothing was read yet
abbrev pub no_plan : Plan
no_plan = record { picks_fail = false; reads = 0; fail_at = None }

-- the number of the last read that has one
abbrev pub last_number : ℕ
last_number = 2 ^ 32 - 1

-- the plan after one read more
abbrev pub after_read : Plan → Plan
after_read p = record p { reads = min (p.reads + 1) last_number }

-- the next read has the planned number
pub record IsDue (p : Plan) : Type 0 where
  pub numbered : p.reads < last_number
  pub planned : p.fail_at ≡ Some (p.reads + 1)

-- no pick is to fail, and no read with the planned number is still to come
pub record IsCalm (p : Plan) : Type 0 where
  pub picks : p.picks_fail ≡ false
  pub past : IfSome p.fail_at (λ call. call ≤ p.reads)

-- the file has this name
abbrev pub has_name : List ℕ → NamedBytes → Bool
has_name name f = bytes_eq f.name name

-- the bytes under a name
abbrev pub bytes_under : List NamedBytes → List ℕ → Option (List ℕ)
bytes_under fs name = option_map (λ f. f.bytes) (find (has_name name) fs)

-- the name of the file at a place
abbrev pub name_at : List NamedBytes → ℕ → List ℕ
name_at fs place = unwrap_or (option_map (λ f. f.name) (slice_get fs place)) []

-- the bytes of the file at a place
abbrev pub bytes_at : List NamedBytes → ℕ → List ℕ
bytes_at fs place = unwrap_or (option_map (λ f. f.bytes) (slice_get fs place)) []
