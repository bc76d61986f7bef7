-- A walk as a list of checks, each with its fault or with none.
use Rattle.std.specs.Prelude.{◌≡◌, ◌⊎◌, ℕ, zero, suc, List, [], ◌∷◌, ◌++◌, Option, Some, None, Result, Ok, Err, alloc_error}
use Rattle.file_fault.specs.declared.FileFault.{FileFault}
use Rattle.file_fault.specs.declared.FileFault.TheVariants.{Memory}

abbrev pub Check : Type 0
Check = Option FileFault

-- the fault of the first check that has one
abbrev pub first_fault : List Check → Option FileFault
first_fault [] = None
first_fault (None ∷ cs) = first_fault cs
first_fault (Some f ∷ cs) = Some f

-- the checks of the entries 0, 1, .. n - 1 of a list, one entry after another
abbrev pub checks_below : (ℕ → List Check) → ℕ → List Check
checks_below f zero = []
checks_below f (suc n) = checks_below f n ++ f n

-- no check has a fault
pub record Pass (cs : List Check) : Type 0 where
  pub none : first_fault cs ≡ None

abbrev pub IsMemory : FileFault → Type 0
IsMemory e = e ≡ Memory alloc_error

-- out of memory, which may come at any time, or the first fault of the checks
pub record IsRefusal (cs : List Check) (e : FileFault) : Type 0 where
  pub cause : IsMemory e ⊎ (first_fault cs ≡ Some e)

-- the answer of a reader that makes these checks, and reads this value where they pass
abbrev pub Walks : {A : Type 0} → List Check → A → Result A FileFault → Type 0
Walks cs v (Ok x) = Pass cs × (x ≡ v)
Walks cs v (Err e) = IsRefusal cs e
