-- What a run of `check` has to come to.
use Rattle.std.specs.Prelude.{◌≡◌, ◌⊎◌, ℕ, ◌≤◌, List, [], length, None}
use Rattle.sil_model.specs.LoopValue.{LoopValue}
use Rattle.sil_model.specs.Sizes.{first_limit_of, most_file_bytes}
use Rattle.loop_file.specs.LoopFile.{IsLoopOf}
use Rattle.sil_top.specs.Report.{IsTrueReport}
use Rattle.sil_top.specs.declared.Status.{Status}
use Rattle.sil_top.specs.declared.Status.TheVariants.{Done, Memory}

-- the bytes are the loop file of this loop, which exceeds no limit
pub record AreSound (bytes : List ℕ) (l : LoopValue) : Type 0 where
  pub short : length bytes ≤ most_file_bytes
  pub is_loop : IsLoopOf bytes l
  pub within : first_limit_of l l.order ≡ None

-- the bytes are sound for no loop
abbrev pub AreUnsound : List ℕ → Type 0
AreUnsound bytes = (l : LoopValue) → ¬ AreSound bytes l

-- the true report of the loop was written, and nothing else; or the program was out of memory, and nothing was written
abbrev pub IsWhole : LoopValue → Status → List ℕ → Type 0
IsWhole l status written = ((status ≡ Done) × IsTrueReport l written) ⊎ ((status ≡ Memory) × (written ≡ []))
