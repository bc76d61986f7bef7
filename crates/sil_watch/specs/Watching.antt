-- Watchers, and what records make of them.
use Rattle.std.specs.Prelude.{◌≡◌, ℕ, Bool, List, [], ◌∷◌, ◌++◌, map, take, drop, if◌then◌else◌}
use Rattle.sil_watch.specs.Kinds.{holds}
use Rattle.sil_watch.specs.declared.kind.WatchSet.{WatchSet}
use Rattle.sil_watch.specs.declared.kind.WatcherKind.{WatcherKind}
use Rattle.sil_watch.specs.declared.record.PhaseRecord.{PhaseRecord}

-- a watcher as contracts see it: its kind; its state; its rule, which makes the next state of a state and a record; and how
-- lines, without their line feeds, are made of a state
pub record WatcherValue : Type 0 where
  pub kind : WatcherKind
  pub state : List ℕ
  pub rule : List ℕ → PhaseRecord → List ℕ
  pub lines : List ℕ → List (List ℕ)

-- the state that a rule makes of a state and records, one after another
unfoldable pub fold_of : (List ℕ → PhaseRecord → List ℕ) → List ℕ → List PhaseRecord → List ℕ
fold_of rule state [] = state
fold_of rule state (r ∷ rs) = fold_of rule (rule state r) rs

-- a watcher that took in these records
abbrev pub fed_with : List PhaseRecord → WatcherValue → WatcherValue
fed_with rs w = record w { state = fold_of w.rule w.state rs }

-- its kind is among those that are asked for
abbrev pub is_asked_of : WatchSet → WatcherValue → Bool
is_asked_of asked w = holds asked w.kind

-- the watchers that are asked for took in these records, and the others none
unfoldable pub fed_of : WatchSet → List PhaseRecord → WatcherValue → WatcherValue
fed_of asked rs w = if is_asked_of asked w then fed_with rs w else w

-- of those that are asked for the first `count` took in all of these records, and those behind them the first of these alone
pub record AreFedInPart (asked : WatchSet) (rs : List PhaseRecord) (before after : List WatcherValue) : Type 0 where
  pub count : ℕ
  pub first : List PhaseRecord
  pub more : List PhaseRecord
  pub all : first ++ more ≡ rs
  pub fed : after ≡ map (fed_of asked rs) (take count before) ++ map (fed_of asked first) (drop count before)
