-- What has to come where memory is found and nothing fails, and in how many pieces it is written.
use Rattle.std.specs.Prelude.{◌≡◌, ◌⊎◌, ℕ, ◌-◌, ◌^◌, ◌<◌, ◌≤◌, true, IsTrue, IsSome, List, length, Option, Some, None}
use Rattle.sil_model.specs.LoopValue.{LoopValue}
use Rattle.sil_model.specs.Sizes.{most_file_bytes}
use Rattle.file_fault.specs.declared.FileFault.{FileFault}
use Rattle.loop_file.specs.LoopFile.{IsLoopOf, HasFault}
use Rattle.sil_io.specs.Bytes.{OffersWhole}
use Rattle.sil_report.specs.Texts.{too_long_line, file_fault_line_of}
use Rattle.sil_words.specs.Language.{Asks}
use Rattle.sil_words.specs.declared.ask.Ask.{Ask}
use Rattle.sil_top.specs.Run.{Seen, reads_file, loop_calls}

-- a count of faults that did not rise, and that is below its last value
pub record IsQuiet (before now : ℕ) : Type 0 where
  pub still : now ≤ before
  pub below : before < 2 ^ 64 - 1

-- the shelf holds the file that the words ask for, if they ask for one
abbrev pub IsHeld : (List ℕ → Option (List ℕ)) → List (List ℕ) → Type 0
IsHeld file words = (a : Ask) → Asks words a → reads_file a.verb ≡ true → IsSome (file a.name)

-- one text was offered in one piece, and then only what was left of it
abbrev pub IsOffered : List (List ℕ) → List (List ℕ) → Type 0
IsOffered before now = (text : List ℕ) × OffersWhole text before now

-- so, or nothing was offered
abbrev pub IsOfferedOnce : List (List ℕ) → List (List ℕ) → Type 0
IsOfferedOnce before now = (now ≡ before) ⊎ IsOffered before now

module _ (seen : Seen) where
  -- the line by which the verb that is asked for refuses a loop, if it does
  abbrev pub refusal_of : Ask → LoopValue → Option (List ℕ)
  refusal_of a l = (loop_calls seen.watchers a l a.verb).refusal

  -- the file that is asked for is not too long, it has no fault, and the verb does not refuse its loop
  pub record IsSoundFile (a : Ask) : Type 0 where
    pub bytes : List ℕ
    pub is_file : seen.file a.name ≡ Some bytes
    pub short : length bytes ≤ most_file_bytes
    pub value : LoopValue
    pub is_loop : IsLoopOf bytes value
    pub passes : refusal_of a value ≡ None

  -- the words are in the language, and the file that they ask for, if they ask for one, is told and sound
  pub record IsSound (words : List (List ℕ)) : Type 0 where
    pub asked : Ask
    pub asks : Asks words asked
    pub sound : reads_file asked.verb ≡ true → IsTrue seen.tells × IsSoundFile asked

  -- the bytes handed out are the file that is asked for, whole: they are not too many, they have no fault, and the verb does not
  -- refuse their loop
  pub record HandsSoundFile (a : Ask) : Type 0 where
    pub bytes : List ℕ
    pub is_handed : seen.handed ≡ record { name = Some a.name; bytes = bytes }
    pub short : length bytes ≤ most_file_bytes
    pub value : LoopValue
    pub is_loop : IsLoopOf bytes value
    pub passes : refusal_of a value ≡ None

  -- the words are in the language, and what was handed out is a sound file of the name that they ask for, if they ask for one
  pub record HandsSound (words : List (List ℕ)) : Type 0 where
    pub asked : Ask
    pub asks : Asks words asked
    pub sound : reads_file asked.verb ≡ true → HandsSoundFile asked

  -- The file that is asked for is refused by a line.
  module _ (a : Ask) (line : List ℕ) where
    -- it is longer than a loop file may be
    pub record IsLongFile : Type 0 where
      pub bytes : List ℕ
      pub is_file : seen.file a.name ≡ Some bytes
      pub long : most_file_bytes < length bytes
      pub says : line ≡ too_long_line

    -- it has a fault
    pub record IsFaultyFile : Type 0 where
      pub bytes : List ℕ
      pub is_file : seen.file a.name ≡ Some bytes
      pub short : length bytes ≤ most_file_bytes
      pub fault : FileFault
      pub first : HasFault bytes fault
      pub says : line ≡ file_fault_line_of fault

    -- the verb refuses its loop, which exceeds a limit
    pub record IsLargeFile : Type 0 where
      pub bytes : List ℕ
      pub is_file : seen.file a.name ≡ Some bytes
      pub short : length bytes ≤ most_file_bytes
      pub value : LoopValue
      pub is_loop : IsLoopOf bytes value
      pub says : refusal_of a value ≡ Some line

    abbrev pub IsRefusedFile : Type 0
    IsRefusedFile = IsLongFile ⊎ IsFaultyFile ⊎ IsLargeFile

  -- the words ask for a file that is told, and it is refused by this line
  pub record IsRefused (words : List (List ℕ)) (line : List ℕ) : Type 0 where
    pub asked : Ask
    pub asks : Asks words asked
    pub of_file : reads_file asked.verb ≡ true
    pub told : IsTrue seen.tells
    pub refused : IsRefusedFile asked line

  -- the words ask for a file, and the shelf tells that it has none of this name
  pub record IsMissing (words : List (List ℕ)) : Type 0 where
    pub asked : Ask
    pub asks : Asks words asked
    pub of_file : reads_file asked.verb ≡ true
    pub told : IsTrue seen.tells
    pub none : seen.file asked.name ≡ None
