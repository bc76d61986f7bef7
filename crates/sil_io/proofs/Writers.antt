-- What a writer that tells what it holds, holds after a call that failed.
use Rattle.std.proofs.Common.{◌≡◌, ℕ, List, Option, Some, None, Result, Ok, Err, OnErr, take, sym, ◌∙◌}
use Rattle.std.specs.Io.KnownBytes.{Appends, Keeps}
use Rattle.std.proofs.lemmas.List.{append-nil}
use Rattle.sil_io.specs.Outside.{AppendsFront}

-- what holds anyway holds after an error
pub anyway : {T E : Type 0} (P : Type 0) (result : Result T E) → P → OnErr result P
anyway P (Ok value) holds = tt
anyway P (Err error) holds = holds

-- nothing was written
pub front-none : (before now : Option (List ℕ)) (bytes : List ℕ) → Keeps before now → AppendsFront before now bytes
front-none None now bytes kept = (0, tt)
front-none (Some xs) None bytes kept = absurd kept
front-none (Some xs) (Some ys) bytes kept = (0, kept ∙ sym (append-nil xs))

-- a front was written, and a later call left it so
pub front-kept : (before between now : Option (List ℕ)) (bytes : List ℕ) (size : ℕ) → Appends before between (take size bytes) → Keeps between now
    → AppendsFront before now bytes
front-kept None between now bytes size written kept = (size, tt)
front-kept (Some xs) None now bytes size written kept = absurd written
front-kept (Some xs) (Some ys) None bytes size written kept = absurd kept
front-kept (Some xs) (Some ys) (Some zs) bytes size written kept = (size, kept ∙ written)
