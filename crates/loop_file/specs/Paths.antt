-- Where a fault is: the path of a key.
use Rattle.std.specs.Prelude.{codes, ◌≡◌, ◌⊎◌, ℕ, ◌&&◌, nat_le, List, [], ◌++◌, map, if◌then◌else◌, Some, None, Result, Ok, Err}
use Rattle.std.specs.Fmt.{decimal}
use Rattle.file_fault.specs.declared.FileFault.{FileFault}
use Rattle.file_fault.specs.declared.FileFault.TheVariants as Fault
use Rattle.loop_file.specs.declared.fault.Flaw.{Flaw}
use Rattle.loop_file.specs.declared.fault.Flaw.TheVariants as Flaws
use Rattle.loop_file.specs.declared.place.Place.{Place}
use Rattle.loop_file.specs.declared.place.Place.TheVariants.{Top, OfType, OfSubsystem, OfTest}
use Rattle.loop_file.specs.Walk.{Check, IsMemory}

-- a byte that is no printable ASCII character shows as `?`
abbrev pub shown_byte : ℕ → ℕ
shown_byte c = if nat_le 32 c && nat_le c 126 then c else 63

-- what stands before the keys of a table
abbrev pub prefix_of : Place → List ℕ
prefix_of Top = []
prefix_of (OfType i) = codes "type[" ++ (decimal i ++ codes "].")
prefix_of (OfSubsystem i) = codes "subsystem[" ++ (decimal i ++ codes "].")
prefix_of (OfTest i) = codes "subsystem[" ++ (decimal i ++ codes "].test.")

-- the path of a key of a table
abbrev pub path_of : Place → List ℕ → List ℕ
path_of place key = prefix_of place ++ map shown_byte key

-- the path of an entry of an array at the top
abbrev pub entry_path : List ℕ → ℕ → List ℕ
entry_path key i = key ++ (codes "[" ++ (decimal i ++ codes "]"))

-- a flaw as the fault at its path
abbrev pub fault_at : List ℕ → Flaw → FileFault
fault_at path Flaws.UnknownKey = Fault.UnknownKey path
fault_at path Flaws.Missing = Fault.Missing path
fault_at path Flaws.WrongKind = Fault.WrongKind path
fault_at path (Flaws.BadText f) = Fault.BadText path f
fault_at path Flaws.OutOfRange = Fault.OutOfRange path
fault_at path Flaws.BadVote = Fault.BadVote path
fault_at path Flaws.SameName = Fault.SameName path
fault_at path Flaws.UnknownType = Fault.UnknownType path

-- the check of what was read at a path
abbrev pub check_at : {A : Type 0} → List ℕ → Result A Flaw → Check
check_at path (Ok x) = None
check_at path (Err flaw) = Some (fault_at path flaw)

-- the answer of a reader of the key of a table, where this is what stands there
abbrev pub IsReadAt : {A : Type 0} → Place → List ℕ → Result A Flaw → Result A FileFault → Type 0
IsReadAt place key reading (Ok x) = reading ≡ Ok x
IsReadAt place key reading (Err e) = IsMemory e ⊎ (check_at (path_of place key) reading ≡ Some e)

-- out of memory, or the flaw's fault at the key
abbrev pub IsFaultAt : Place → List ℕ → Flaw → FileFault → Type 0
IsFaultAt place key flaw e = IsMemory e ⊎ (e ≡ fault_at (path_of place key) flaw)
