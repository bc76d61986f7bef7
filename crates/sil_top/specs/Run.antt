-- What a run calls for: a status, and the text that is written whole under it.
use Rattle.std.specs.Prelude.{◌≡◌, ℕ, ◌<◌, ◌≤◌, Bool, true, false, ◌&&◌, IsTrue, ◌⊎◌, List, ◌++◌, length, Option, Some, None, option_map, if◌then◌else◌}
use Rattle.std.specs.List.{list_any}
use Rattle.sil_model.specs.LoopValue.{LoopValue}
use Rattle.sil_model.specs.Sizes.{first_limit_of, most_file_bytes}
use Rattle.sil_model.specs.declared.answers.Band.{Band}
use Rattle.file_fault.specs.declared.FileFault.{FileFault}
use Rattle.loop_file.specs.Tree.{tree_of}
use Rattle.loop_file.specs.LoopFile.{IsLoopOf, HasFault}
use Rattle.loop_print.specs.Canonical.{canonical_of}
use Rattle.loop_print.specs.CanonicalText.{canonical_text}
use Rattle.loop_gen.specs.Drawn.{drawn_of}
use Rattle.loop_value.specs.Sizes.{sizes_of}
use Rattle.sil_bands.specs.Meets.{meets_of}
use Rattle.sil_io.specs.Handed.{Handed, nothing_handed, just_picked, HandsMoreThan, HandsAtMost}
use Rattle.verb_table.specs.Table.{verb_table}
use Rattle.verb_table.specs.Usage.{usage_text}
use Rattle.verb_table.specs.contracts.verb.PositionalPartialEq.TheImpl as positional_equality
use Rattle.verb_table.specs.contracts.verb.VerbPartialEq.TheImpl as verb_equality
use Rattle.verb_table.specs.declared.verb.Positional.TheVariants.{Name}
use Rattle.verb_table.specs.declared.verb.Verb.{Verb}
use Rattle.verb_table.specs.declared.verb.Verb.TheVariants.{Check, Size, Gen, Bench}
use Rattle.sil_words.specs.Language.{Asks, IsInLanguage}
use Rattle.sil_words.specs.declared.ask.Ask.{Ask}
use Rattle.sil_words.specs.declared.ask.Mode.{Mode}
use Rattle.sil_words.specs.declared.ask.Mode.TheVariants.{Low, High, Both}
use Rattle.sil_report.specs.Texts.{size_text_of, limit_fault_line_of, file_fault_line_of, too_long_line}
use Rattle.sil_watch.specs.Watching.{WatcherValue}
use Rattle.sil_top.specs.Report.{IsTrueReport, IsToldOfPhases}
use Rattle.sil_top.specs.declared.Status.{Status}
use Rattle.sil_top.specs.declared.Status.TheVariants.{Done, NotShown, Usage, FileRefused}

pub record Outcome : Type 0 where
  pub status : Status
  pub text : List ℕ

-- ---- what a loop calls for, by each verb

-- what a verb makes of a loop: the line by which it refuses it, if it does, and what holds of the text else, and of whether
-- what is needed is shown
pub record LoopCalls : Type 1 where
  pub refusal : Option (List ℕ)
  pub answer : Bool → List ℕ → Type 0

-- a loop that exceeds a limit is refused by the line of the first
abbrev pub within_limits : LoopValue → (Bool → List ℕ → Type 0) → LoopCalls
within_limits l answer = record { refusal = option_map limit_fault_line_of (first_limit_of l l.order); answer = answer }

-- no loop is refused
abbrev pub without_limit : (Bool → List ℕ → Type 0) → LoopCalls
without_limit answer = record { refusal = None; answer = answer }

-- the asked bands, of that of PFDavg and that of PFH, show the level that is needed, if one is
abbrev pub is_shown : Option ℕ → Mode → Band → Band → Bool
is_shown None mode pfd pfh = true
is_shown (Some need) Low pfd pfh = meets_of pfd need
is_shown (Some need) High pfd pfh = meets_of pfh need
is_shown (Some need) Both pfd pfh = meets_of pfd need && meets_of pfh need

-- the report of the loop, and behind it what watchers tell of its phases, which were `before` before the run; the printed bands
-- show what is needed, or do not
pub record IsReported (before : List WatcherValue) (a : Ask) (l : LoopValue) (shown : Bool) (text : List ℕ) : Type 0 where
  pub front : List ℕ
  pub lines : List ℕ
  pub printed : text ≡ front ++ lines
  pub report : IsTrueReport l front
  pub told : IsToldOfPhases l a.watch before lines
  pub bands : shown ≡ is_shown a.need a.mode report.pfd.band report.pfh.band

-- the sizes of the loop, which is within all limits
pub record IsSized (l : LoopValue) (shown : Bool) (text : List ℕ) : Type 0 where
  pub done : shown ≡ true
  pub within : first_limit_of l l.order ≡ None
  pub printed : text ≡ size_text_of l (sizes_of l l.order)

-- the canonical loop file of the loop, byte by byte: it is no longer than a loop file may be, and reads back as this loop
pub record IsPrinted (l : LoopValue) (shown : Bool) (text : List ℕ) : Type 0 where
  pub done : shown ≡ true
  pub bytes : text ≡ canonical_text l
  pub short : length text ≤ most_file_bytes
  pub canonical : tree_of text ≡ Some (canonical_of l)
  pub reads_back : IsLoopOf text l

-- what each verb makes of a loop, where the watchers were `before`
abbrev pub loop_calls : List WatcherValue → Ask → LoopValue → Verb → LoopCalls
loop_calls before a l Check = within_limits l (IsReported before a l)
loop_calls before a l Size = within_limits l (IsSized l)
loop_calls before a l Gen = without_limit (IsPrinted l)
loop_calls before a l Bench = without_limit (IsReported before a l)

-- the loop is that of a file, and the verb refuses it; or the verb does not refuse it, and the text is the verb's
abbrev pub IsCalledBy : Bool → LoopCalls → Outcome → Type 0
IsCalledBy of_file calls o =
    ((of_file ≡ true) × (calls.refusal ≡ Some o.text) × (o.status ≡ FileRefused))
    ⊎ ((calls.refusal ≡ None) × (shown : Bool) × calls.answer shown o.text × (o.status ≡ (if shown then Done else NotShown)))

-- ---- what a file calls for: what the shelf tells of its files, what it handed out, and the name of the file

module _ (tells : Bool) (file : List ℕ → Option (List ℕ)) (handed : Handed) (name : List ℕ) where
  -- the file has just these bytes, all of them were handed out, and they are not too many
  pub record IsHandedWhole (bytes : List ℕ) : Type 0 where
    pub is_handed : handed ≡ record { name = Some name; bytes = bytes }
    pub is_file : IsTrue tells → file name ≡ Some bytes
    pub short : length bytes ≤ most_file_bytes

  -- where the shelf tells its files, what was handed out is a front of the file
  pub record IsFront : Type 0 where
    pub rest : List ℕ
    pub is_front : file name ≡ Some (handed.bytes ++ rest)

  -- the file is too long, and more bytes of it than a loop file has were handed out
  pub record IsTooLong (o : Outcome) : Type 0 where
    pub status : o.status ≡ FileRefused
    pub is_handed : HandsMoreThan most_file_bytes (just_picked name) handed
    pub front : IsTrue tells → IsFront
    pub long : IsTrue tells → (bytes : List ℕ) × (file name ≡ Some bytes) × (most_file_bytes < length bytes)
    pub printed : o.text ≡ too_long_line

  -- the first fault of the file
  pub record IsFaulty (o : Outcome) : Type 0 where
    pub status : o.status ≡ FileRefused
    pub bytes : List ℕ
    pub whole : IsHandedWhole bytes
    pub fault : FileFault
    pub first : HasFault bytes fault
    pub printed : o.text ≡ file_fault_line_of fault

  -- the file is the loop file of this loop
  pub record IsFileOf (l : LoopValue) : Type 0 where
    pub bytes : List ℕ
    pub whole : IsHandedWhole bytes
    pub is_loop : IsLoopOf bytes l

  -- no file is picked, or of this one no more was handed out than a loop file has
  abbrev pub IsHandedInPart : Type 0
  IsHandedInPart = (handed ≡ nothing_handed) ⊎ (HandsAtMost most_file_bytes (just_picked name) handed × (IsTrue tells → IsFront))

-- ---- what the words call for

-- a verb reads a file where its row in the table of verbs has a name
abbrev pub reads_file : Verb → Bool
reads_file verb = list_any (λ row. (verb_equality.ghosts).eq row.verb verb && (positional_equality.ghosts).eq row.positional Name) verb_table

-- what is seen of a run: its watchers before it, what the shelf tells of its files, and what it handed out
pub record Seen : Type 0 where
  pub watchers : List WatcherValue
  pub tells : Bool
  pub file : List ℕ → Option (List ℕ)
  pub handed : Handed

-- the words are not in the language
pub record IsUsage (words : List (List ℕ)) (o : Outcome) : Type 0 where
  pub status : o.status ≡ Usage
  pub outside : IsInLanguage words → ⊥
  pub printed : o.text ≡ usage_text verb_table

-- the words ask for a file
pub record IsFileAsked (words : List (List ℕ)) : Type 0 where
  pub asked : Ask
  pub asks : Asks words asked
  pub of_file : reads_file asked.verb ≡ true

module _ (seen : Seen) where
  -- the file that is asked for is refused for itself
  abbrev pub IsRefusedFor : Ask → Outcome → Type 0
  IsRefusedFor a o = (reads_file a.verb ≡ true)
      × (IsTooLong seen.tells seen.file seen.handed a.name o ⊎ IsFaulty seen.tells seen.file seen.handed a.name o)

  -- the loop that is asked for: that of the file, or else the one that is drawn from the number
  pub record IsLoopFor (a : Ask) (l : LoopValue) : Type 0 where
    pub of_file : reads_file a.verb ≡ true → IsFileOf seen.tells seen.file seen.handed a.name l
    pub drawn : reads_file a.verb ≡ false → l ≡ drawn_of a.number

  -- the usage text; or what the file calls for, or what its loop calls for by the verb
  abbrev pub CallsFor : List (List ℕ) → Outcome → Type 0
  CallsFor words o = IsUsage words o
      ⊎ ((a : Ask) × Asks words a × (IsRefusedFor a o ⊎ ((l : LoopValue) × IsLoopFor a l × IsCalledBy (reads_file a.verb) (loop_calls seen.watchers a l a.verb) o)))

  -- the words ask for a file, and the run ended with no more of it handed out than a loop file has
  pub record IsStopped (words : List (List ℕ)) : Type 0 where
    pub asked : Ask
    pub asks : Asks words asked
    pub of_file : reads_file asked.verb ≡ true
    pub is_handed : IsHandedInPart seen.tells seen.file seen.handed asked.name
