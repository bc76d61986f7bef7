-- The words of a loop file's fault.
use Rattle.std.specs.Prelude.{ℕ, List, ◌++◌, codes}
use Rattle.std.specs.Fmt.{signed_decimal}
use Rattle.sil_text.specs.Fault.{text_fault_of}
use Rattle.file_fault.specs.declared.FileFault.{FileFault}
use Rattle.file_fault.specs.declared.FileFault.TheVariants.{Memory, NotToml, BadVersion, UnknownKey, Missing, WrongKind, BadText, OutOfRange, BadVote, SameName, UnknownType}

-- what is wrong with a loop file, and the path of the place; out of memory is no fault of the file
abbrev pub fault_of : FileFault → List ℕ
fault_of (Memory e) = codes "out of memory"
fault_of NotToml = codes "not TOML"
fault_of (BadVersion n) = codes "version " ++ signed_decimal n
fault_of (UnknownKey path) = codes "unknown key " ++ path
fault_of (Missing path) = codes "missing " ++ path
fault_of (WrongKind path) = codes "wrong kind " ++ path
fault_of (BadText path fault) = codes "text " ++ path ++ codes " " ++ text_fault_of fault
fault_of (OutOfRange path) = codes "out of range " ++ path
fault_of (BadVote path) = codes "vote " ++ path
fault_of (SameName path) = codes "same name " ++ path
fault_of (UnknownType path) = codes "unknown type " ++ path
