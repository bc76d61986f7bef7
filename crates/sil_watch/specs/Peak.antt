-- A peak as a watcher: its state is that of no record, or it keeps one, and has a line of it.
use Rattle.std.specs.Prelude.{◌≡◌, ℕ, ◌<◌, Bool, true, List, [], ◌∷◌, ◌++◌, length, slice_index_or, Option, Some, None, codes, decimal, nat_lt, if◌then◌else◌}
use Rattle.std.specs.List.{IsFirstMaxByKey}
use Rattle.sil_watch.specs.Lines.{interval_text}
use Rattle.sil_watch.specs.Watching.{WatcherValue, fold_of}
use Rattle.sil_watch.specs.declared.kind.WatcherKind.TheVariants.{Peak}
use Rattle.sil_watch.specs.declared.record.PhaseRecord.{PhaseRecord}

-- what is kept of a record: its index, and the two ends of the chance at the end of the phase
abbrev pub end_of : PhaseRecord → List ℕ
end_of r = r.index ∷ r.at_end.lo ∷ r.at_end.hi ∷ []

-- a record more: it is kept where none is, or where its upper end is greater than the one that is kept
abbrev pub with_greater : List ℕ → PhaseRecord → List ℕ
with_greater (index ∷ (lo ∷ (hi ∷ []))) r = if nat_lt hi r.at_end.hi then end_of r else index ∷ lo ∷ hi ∷ []
with_greater _ r = end_of r

-- the same rule by the record that is kept
abbrev pub is_exceeded : Option PhaseRecord → PhaseRecord → Bool
is_exceeded None r = true
is_exceeded (Some kept) r = nat_lt kept.at_end.hi r.at_end.hi

abbrev pub peak_line : ℕ → ℕ → ℕ → List ℕ
peak_line index lo hi = codes "peak phase " ++ (decimal index ++ (codes " end " ++ interval_text lo hi))

-- the line of what is kept
abbrev pub peak_lines : List ℕ → List (List ℕ)
peak_lines (index ∷ (lo ∷ (hi ∷ []))) = peak_line index lo hi ∷ []
peak_lines _ = []

abbrev pub peak_state : Option PhaseRecord → List ℕ
peak_state None = []
peak_state (Some r) = end_of r

-- the peak that keeps this record
abbrev pub peak_value : Option PhaseRecord → WatcherValue
peak_value kept = record { kind = Peak; state = peak_state kept; rule = with_greater; lines = peak_lines }

-- of these records the one at the place is the first whose upper end is the greatest, and the state keeps it
pub record KeepsFirstGreatest (rs : List PhaseRecord) (state : List ℕ) : Type 0 where
  pub place : ℕ
  pub kept : PhaseRecord
  pub at : slice_index_or rs place kept ≡ kept
  pub first : IsFirstMaxByKey (λ (r : PhaseRecord). r.at_end.hi) rs (length rs) place
  pub is : state ≡ end_of kept

-- so does a peak that kept no record before
abbrev pub PeaksKeepGreatest : Type 0
PeaksKeepGreatest = (rs : List PhaseRecord) → 0 < length rs → KeepsFirstGreatest rs (fold_of with_greater [] rs)
