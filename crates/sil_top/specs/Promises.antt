-- What a run promises, whichever shelf and sink it has.
use Rattle.std.specs.Prelude.{◌≡◌, ◌⊎◌, ℕ, ◌≤◌, Bool, true, IsTrue, List, [], ◌∷◌, ◌++◌, length, Option}
use Rattle.sil_io.specs.Bytes.{AppendsPart}
use Rattle.sil_io.specs.Faults.{CountsFault}
use Rattle.sil_io.specs.Handed.{Handed}
use Rattle.sil_watch.specs.Watching.{WatcherValue}
use Rattle.sil_words.specs.Language.{Asks, IsInLanguage}
use Rattle.sil_words.specs.declared.ask.Ask.{Ask}
use Rattle.sil_top.specs.Complete.{IsQuiet, IsSound, HandsSound, IsRefused, IsMissing, IsHeld, IsOffered, IsOfferedOnce}
use Rattle.sil_top.specs.Run.{Outcome, Seen, CallsFor, IsFileAsked, IsStopped}
use Rattle.sil_top.specs.declared.Status.{Status}
use Rattle.sil_top.specs.declared.Status.TheVariants.{Done, NotShown, Usage, FileRefused, ReadFault, WriteFault, Memory}

-- what a shelf shows of itself (the members of `Shelf`), in whichever state
pub record ShelfView (S : Type 0) : Type 1 where
  pub tells : Bool
  pub file : S → List ℕ → Option (List ℕ)
  pub handed : S → Handed
  pub tried : S → List (List ℕ)
  pub failed : S → Bool
  pub faults : S → ℕ
  pub calm : S → Type 0

-- what a sink shows of itself (the members of `Sink`)
pub record SinkView (K : Type 0) : Type 1 where
  pub tells : Bool
  pub written : K → List ℕ
  pub taken : K → List ℕ
  pub offered : K → List (List ℕ)
  pub failed : K → Bool
  pub faults : K → ℕ
  pub room : K → ℕ

-- A sink, from a state to another.
module _ {K : Type 0} (sink : SinkView K) (old new : K) where
  -- it took this text, and holds it if it tells what it holds
  abbrev pub IsWritten : List ℕ → Type 0
  IsWritten text = (sink.taken new ≡ sink.taken old ++ text) × (IsTrue sink.tells → sink.written new ≡ sink.written old ++ text)

  -- it took nothing
  pub record IsUnwritten : Type 0 where
    pub taken : sink.taken new ≡ sink.taken old
    pub written : IsTrue sink.tells → sink.written new ≡ sink.written old

-- A run, with the shelf from a state to another, and its watchers before it.
module _ {S : Type 0} (shelf : ShelfView S) (before now : S) (watchers : List WatcherValue) where
  -- what is seen of it
  abbrev pub seen : Seen
  seen = record { watchers = watchers; tells = shelf.tells; file = shelf.file before; handed = shelf.handed now }

  -- And the sink from a state to another, the words, and the status that is answered.
  module _ {K : Type 0} (sink : SinkView K) (old new : K) (words : List (List ℕ)) (status : Status) where
    -- a whole answer was written, or the program was out of memory
    abbrev pub IsAnswered : Type 0
    IsAnswered = (status ≡ Memory) ⊎ (((status ≡ Done) ⊎ (status ≡ NotShown))
        × (text : List ℕ) × CallsFor seen words (record { status = status; text = text }) × IsWritten sink old new text)

    -- neither count of faults rose
    pub record IsFaultless : Type 0 where
      pub reads : IsQuiet (shelf.faults before) (shelf.faults now)
      pub writes : IsQuiet (sink.faults old) (sink.faults new)

    pub record KeepsPromises : Type 0 where
      -- What was asked for was written: by `check` and `bench` a true report, in which PFDavg and PFH of every order of the series
      -- from the printed one on, and the exact ones, lie between the printed ends, which are no further apart than the error
      -- budget allows, and the bands are those of the ends, and behind the report the lines of the watchers that are asked for,
      -- each fed one true record of every phase; by `size` the sizes of the loop; by `gen` its loop file.
      pub headline : status ≡ Done → (text : List ℕ) × CallsFor seen words (record { status = Done; text = text }) × IsWritten sink old new text
      -- the same of a report whose printed bands do not show the level that is needed
      pub not_shown : status ≡ NotShown → (text : List ℕ) × CallsFor seen words (record { status = NotShown; text = text }) × IsWritten sink old new text
      -- the same of the usage text, and of the line that refuses a file
      pub usage : status ≡ Usage → (text : List ℕ) × CallsFor seen words (record { status = Usage; text = text }) × IsWritten sink old new text
      pub refused : status ≡ FileRefused → (text : List ℕ) × CallsFor seen words (record { status = FileRefused; text = text }) × IsWritten sink old new text
      -- a read fault is one that the shelf counted, with no more handed out than a loop file has and nothing written
      pub read_fault : status ≡ ReadFault → IsStopped seen words × CountsFault (shelf.faults before) (shelf.faults now) × IsUnwritten sink old new
      -- a write fault is one that the sink counted, with a part of the text written, and not all of it
      pub write_fault : status ≡ WriteFault → (told : Status) × (text : List ℕ) × CallsFor seen words (record { status = told; text = text })
          × CountsFault (sink.faults old) (sink.faults new)
          × AppendsPart (sink.taken old) (sink.taken new) text
          × (IsTrue sink.tells → AppendsPart (sink.written old) (sink.written new) text)
      -- out of memory hides no fault: the shelf counted none, and the sink is as it was, so that nothing was offered to it
      pub memory : status ≡ Memory → ((shelf.handed now ≡ shelf.handed before) ⊎ IsStopped seen words)
          × IsUnwritten sink old new × (shelf.faults now ≡ shelf.faults before) × (new ≡ old)
      -- words outside the language have no other status, but where memory is not found or a write fails
      pub usage_comes : (IsInLanguage words → ⊥) → (status ≡ Usage) ⊎ (status ≡ WriteFault) ⊎ (status ≡ Memory)
      -- where the words ask for no file, the shelf is as before
      pub untouched : (IsFileAsked words → ⊥) → now ≡ before
      pub files_stay : IsTrue shelf.tells → (name : List ℕ) → shelf.file now name ≡ shelf.file before name
      -- the shelf is asked for one file at most, that of the words, and a fault is that of this file
      pub picked_once : (a : Ask) → Asks words a → (now ≡ before) ⊎ (shelf.tried now ≡ shelf.tried before ++ a.name ∷ [])
      pub noted : status ≡ ReadFault → shelf.failed now ≡ true
      pub fault_of_name : status ≡ ReadFault → (a : Ask) → Asks words a → shelf.tried now ≡ shelf.tried before ++ a.name ∷ []
      -- the text is offered to the sink in one piece, and a write fault is that of the last write
      pub in_one_piece : IsOfferedOnce (sink.offered old) (sink.offered new)
      pub last_failed : status ≡ WriteFault → (sink.failed new ≡ true) × IsOffered (sink.offered old) (sink.offered new)
      -- over a calm shelf that holds the file, its count stays, and no read fault comes
      pub calm_stays : shelf.calm before → shelf.calm now
      pub calm_count : shelf.calm before → IsHeld (shelf.file before) words → shelf.faults now ≡ shelf.faults before
      pub calm_reads : shelf.calm before → IsHeld (shelf.file before) words → status ≡ ReadFault → ⊥
      -- completeness: words in the language, a told file without fault or limit, if they ask for one, and no rise of either count
      -- of faults give the whole answer, or memory is not found
      pub complete : IsSound seen words → IsFaultless → IsAnswered
      -- the same of a file that was handed out whole, also where the shelf tells nothing, as real files
      pub complete_handed : HandsSound seen words → IsFaultless → IsAnswered
      -- a told file that is refused gives its line, where the counts do not rise, or memory is not found
      pub refuses : (line : List ℕ) → IsRefused seen words line → IsFaultless → (status ≡ Memory) ⊎ ((status ≡ FileRefused) × IsWritten sink old new line)
      -- a file that the shelf tells not to have gives a read fault, or memory is not found
      pub missing : IsMissing seen words → (status ≡ ReadFault) ⊎ (status ≡ Memory)
      -- over a sink with room for each text that may be called for, its count stays, and no write fault comes
      pub roomy : ((o : Outcome) → CallsFor seen words o → length o.text ≤ sink.room old)
          → (status ≡ WriteFault → ⊥) × (sink.faults new ≡ sink.faults old)
