-- Why there is no answer, and what holds of each step of a run, for the functions within the crate.
use Rattle.std.specs.Prelude.{◌≡◌, ◌⊎◌, ℕ, ◌≤◌, Bool, true, false, IsTrue, IsSome, List, [], ◌∷◌, ◌++◌, length, Result, IfOk, IfErr, OnOk, IsErrOf}
use Rattle.sil_io.specs.Bytes.{AppendsPart}
use Rattle.sil_io.specs.Faults.{CountsFault}
use Rattle.sil_report.specs.Texts.{too_long_line}
use Rattle.sil_watch.specs.Watching.{WatcherValue}
use Rattle.sil_words.specs.Language.{Asks, IsInLanguage}
use Rattle.sil_words.specs.declared.ask.Ask.{Ask}
use Rattle.sil_top.specs.Complete.{IsHeld, IsOffered, IsOfferedOnce}
use Rattle.sil_top.specs.Promises.{ShelfView, SinkView, seen, IsWritten}
use Rattle.sil_top.specs.Run.{Outcome, Seen, IsTooLong, IsFaulty, IsHandedInPart, IsFileAsked, CallsFor, IsStopped}
use Rattle.sil_top.specs.declared.Status.{Status}
use Rattle.sil_top.specs.declared.Status.TheVariants.{FileRefused, WriteFault}
use Rattle.sil_top.specs.declared.answer.Answer.{Answer}
use Rattle.sil_top.specs.declared.answer.Fault.{Fault}
use Rattle.sil_top.specs.declared.answer.Fault.TheVariants.{Memory, Read, Refused, TooLong, Usage}

abbrev pub outcome_of : Answer → Outcome
outcome_of x = record { status = x.status; text = x.text.items }

-- a file is refused by this line
abbrev pub refused_by : List ℕ → Outcome
refused_by line = record { status = FileRefused; text = line }

module _ {S : Type 0} (shelf : ShelfView S) (before now : S) where
  -- why nothing is read of the file of this name
  abbrev pub IsFileFault : List ℕ → Fault → Type 0
  IsFileFault name Usage = ⊥
  IsFileFault name Read = IsHandedInPart shelf.tells (shelf.file before) (shelf.handed now) name × CountsFault (shelf.faults before) (shelf.faults now)
  IsFileFault name TooLong = IsTooLong shelf.tells (shelf.file before) (shelf.handed now) name (refused_by too_long_line)
  IsFileFault name (Refused line) = IsFaulty shelf.tells (shelf.file before) (shelf.handed now) name (refused_by line.items)
  IsFileFault name (Memory e) = IsHandedInPart shelf.tells (shelf.file before) (shelf.handed now) name × (shelf.faults now ≡ shelf.faults before)

  -- the file of this name was asked for, and this was read of it
  pub record Reads (name : List ℕ) {A : Type 0} (IsRead : A → Type 0) (r : Result A Fault) : Type 0 where
    pub read : IfOk r IsRead
    pub cause : IfErr r (IsFileFault name)
    pub no_fault : OnOk r (shelf.faults now ≡ shelf.faults before)
    pub files_stay : IsTrue shelf.tells → (other : List ℕ) → shelf.file now other ≡ shelf.file before other
    pub tried : shelf.tried now ≡ shelf.tried before ++ name ∷ []
    pub noted : IsErrOf r Read → shelf.failed now ≡ true
    pub calm_stays : shelf.calm before → shelf.calm now
    pub calm_count : shelf.calm before → IsSome (shelf.file before name) → shelf.faults now ≡ shelf.faults before
    pub calm_reads : shelf.calm before → IsSome (shelf.file before name) → IsErrOf r Read → ⊥

  module _ (watchers : List WatcherValue) (words : List (List ℕ)) where
    abbrev pub Calls : Outcome → Type 0
    Calls = CallsFor (seen shelf before now watchers) words

    -- why there is no answer to the words
    abbrev pub HasCause : Fault → Type 0
    HasCause Usage = IsInLanguage words → ⊥
    HasCause Read = IsStopped (seen shelf before now watchers) words × CountsFault (shelf.faults before) (shelf.faults now)
    HasCause TooLong = Calls (refused_by too_long_line)
    HasCause (Refused line) = Calls (refused_by line.items)
    HasCause (Memory e) = ((shelf.handed now ≡ shelf.handed before) ⊎ IsStopped (seen shelf before now watchers) words)
        × (shelf.faults now ≡ shelf.faults before)

    -- this is the answer to the words
    pub record Answers (r : Result Answer Fault) : Type 0 where
      pub answer : IfOk r (λ x. Calls (outcome_of x))
      pub cause : IfErr r HasCause
      pub untouched : (IsFileAsked words → ⊥) → now ≡ before
      pub files_stay : IsTrue shelf.tells → (name : List ℕ) → shelf.file now name ≡ shelf.file before name
      pub picked_once : (a : Ask) → Asks words a → (now ≡ before) ⊎ (shelf.tried now ≡ shelf.tried before ++ a.name ∷ [])
      pub noted : IsErrOf r Read → shelf.failed now ≡ true
      pub fault_of_name : IsErrOf r Read → (a : Ask) → Asks words a → shelf.tried now ≡ shelf.tried before ++ a.name ∷ []
      pub calm_stays : shelf.calm before → shelf.calm now
      pub calm_count : shelf.calm before → IsHeld (shelf.file before) words → shelf.faults now ≡ shelf.faults before
      pub calm_reads : shelf.calm before → IsHeld (shelf.file before) words → IsErrOf r Read → ⊥

-- the text was written whole under this status, or a write failed
pub record Writes {K : Type 0} (sink : SinkView K) (old new : K) (o : Outcome) (status : Status) : Type 0 where
  pub whole : status ≡ o.status → IsWritten sink old new o.text
  pub part : status ≡ WriteFault → CountsFault (sink.faults old) (sink.faults new)
      × AppendsPart (sink.taken old) (sink.taken new) o.text
      × (IsTrue sink.tells → AppendsPart (sink.written old) (sink.written new) o.text)
  pub one_of_two : (status ≡ o.status) ⊎ (status ≡ WriteFault)
  pub in_one_piece : IsOfferedOnce (sink.offered old) (sink.offered new)
  pub last_failed : status ≡ WriteFault → (sink.failed new ≡ true) × IsOffered (sink.offered old) (sink.offered new)
  pub roomy : length o.text ≤ sink.room old → (status ≡ o.status) × (sink.faults new ≡ sink.faults old)
