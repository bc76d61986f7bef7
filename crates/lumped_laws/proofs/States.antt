-- A full state, its count vector and its number.
use Rattle.std.proofs.Common.{◌≡◌, ℕ, ◌<◌, List, length, get_or, set, sym, ap, ◌∙◌}
use Rattle.std.specs.Prelude.{All}
use Rattle.std.proofs.lemmas.List.{length-set}
use Rattle.std.proofs.lemmas.List.Elements.{All-weaker}
use Rattle.sil_model.specs.State.{FullState, start_of}
use Rattle.sil_model.specs.Events.{events_of}
use Rattle.sil_model.specs.Series.{Values}
use Rattle.sil_model.specs.LoopValue.{groups_of}
use Rattle.sil_model.specs.Sizes.{states_of}
use Rattle.sil_model.specs.Counts.{IsCounts, count_in, counts_at_start, counts_numbered, number_of}
use Rattle.sil_model.specs.declared.parts.Chan.{Chan}
use Rattle.sil_model.specs.declared.parts.Group.{Group}
use Rattle.sil_model.specs.declared.parts.Subsystem.{Subsystem}
use Rattle.count_laws.specs.SameCounts.{count_in_group, IsFull, IsSameCounts}
use Rattle.count_laws.proofs.Numbering.{number_of-small, counts_numbered-number_of, counts_numbered-valid, number_of-counts_numbered, start-valid, number_of-start}
use Rattle.lumped_laws.specs.CountsOfState.{counts_of_state, number_of_state}
use Rattle.lumped_laws.specs.StateOfCounts.{state_of_counts, state_numbered}
use Rattle.lumped_laws.specs.StateLaws.{KeepsFull, IsCountedAfter, StateLaw}
use Rattle.lumped_laws.proofs.Lengths.{KeepsLength, events-keep}
use Rattle.lumped_laws.proofs.GroupCounts.{counted-back, length-counted, counted-valid, state-start}
use Rattle.lumped_laws.proofs.LaidOut.{groups-channels, groups-laid, count-at, counts-same, groups-start}

-- the same at every full state
abbrev pub IsSame : List Subsystem → Values FullState → Values FullState → Type 0
IsSame us f g = (s : FullState) → IsFull us s → f s ≡ g s

module _ (us : List Subsystem) where
  abbrev groups : List Group
  groups = groups_of us

  pub counts-back : (cs : List ℕ) → IsCounts groups cs → counts_of_state us (state_of_counts groups cs) ≡ cs
  unfolding counts_of_state
  counts-back cs v = counted-back groups cs v

  pub state-full : (cs : List ℕ) → IsCounts groups cs → IsFull us (state_of_counts groups cs)
  state-full cs v = length-counted groups cs v ∙ groups-channels us

  pub counts-valid : (s : FullState) → IsFull us s → IsCounts groups (counts_of_state us s)
  unfolding counts_of_state
  counts-valid s f = counted-valid groups s (f ∙ sym (groups-channels us))

  pub number-small : (s : FullState) → IsFull us s → number_of_state us s < states_of us
  unfolding number_of_state states_of
  number-small s f = number_of-small groups (counts_of_state us s) (counts-valid s f)

  pub counts-numbered : (s : FullState) → IsFull us s → counts_numbered groups (number_of_state us s) ≡ counts_of_state us s
  unfolding number_of_state
  counts-numbered s f = counts_numbered-number_of groups (counts_of_state us s) (counts-valid s f)

  pub numbered-full : (i : ℕ) → IsFull us (state_numbered us i)
  unfolding state_numbered
  numbered-full i = state-full (counts_numbered groups i) (counts_numbered-valid groups i)

  pub numbered-counts : (i : ℕ) → counts_of_state us (state_numbered us i) ≡ counts_numbered groups i
  unfolding state_numbered
  numbered-counts i = counts-back (counts_numbered groups i) (counts_numbered-valid groups i)

  pub number-numbered : (i : ℕ) → i < states_of us → number_of_state us (state_numbered us i) ≡ i
  unfolding number_of_state states_of
  number-numbered i h = ap (number_of groups) (numbered-counts i) ∙ number_of-counts_numbered groups i h

  -- the count vector has each count of each group
  pub counts-at : (s : FullState) (g : ℕ) (x : Group) → g < length groups → (k : Chan)
      → count_in (counts_of_state us s) g k ≡ count_in_group us (get_or groups g x) k s
  unfolding counts_of_state
  counts-at s g x l k = count-at us 0 groups (groups-laid us) g x l k s

  -- so full states have the same counts exactly where they have the same count vector
  pub same-counts : (s t : FullState) → IsFull us s → IsFull us t → counts_of_state us s ≡ counts_of_state us t → IsSameCounts us s t
  same-counts s t f g e = record {
    full = f;
    also_full = g;
    counts = λ i x l k. sym (counts-at s i x l k) ∙ ap (λ cs. count_in cs i k) e ∙ counts-at t i x l k;
  }

  pub counts-alike : (s t : FullState) → IsSameCounts us s t → counts_of_state us s ≡ counts_of_state us t
  unfolding counts_of_state
  counts-alike s t same = counts-same us 0 groups (groups-laid us) s t same.counts

  -- the full state of the number of a full state has the same counts
  pub alike : (s : FullState) → IsFull us s → IsSameCounts us s (state_numbered us (number_of_state us s))
  alike s f =
      let i : ℕ = number_of_state us s in
      same-counts s (state_numbered us i) f (numbered-full i) (sym (numbered-counts i ∙ counts-numbered s f))

  -- the start
  pub start-state : state_of_counts groups (counts_at_start groups) ≡ start_of us
  start-state = state-start groups ∙ groups-start us

  pub start-full : IsFull us (start_of us)
  start-full = rw (← start-state) (state-full (counts_at_start groups) (start-valid groups))

  pub start-first : number_of_state us (start_of us) ≡ 0
  unfolding number_of_state
  start-first = rw (← start-state, counts-back (counts_at_start groups) (start-valid groups)) (number_of-start groups)

  -- what a full state leads to is full
  pub events-full : All (KeepsFull us) (events_of us)
  events-full = All-weaker KeepsLength (KeepsFull us) (λ e k s f. k s ∙ f) (events_of us) (events-keep us)

  pub tests-full : (s : FullState) (c : ℕ) (k : Chan) → IsFull us s → IsFull us (set s c k)
  tests-full s c k f = length-set s c k ∙ f

  pub state_laws : StateLaw us
  state_laws = record {
    back = counts-back;
    full = state-full;
    valid = counts-valid;
    counts = counts-at;
    same = same-counts;
    same_vector = counts-alike;
    below = number-small;
    numbered = counts-numbered;
    alike = alike;
    number = number-numbered;
    numbered_full = numbered-full;
    start_full = start-full;
    start_state = start-state;
    start_first = start-first;
    events = events-full;
    events_counted = All-weaker (KeepsFull us) (IsCountedAfter us) (λ e k s f. counts-valid (e.move s) (k s f)) (events_of us) events-full;
    tests = tests-full;
    tests_counted = λ s c k f. counts-valid (set s c k) (tests-full s c k f);
  }
