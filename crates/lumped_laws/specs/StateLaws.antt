-- The laws of full states and count vectors.
use Rattle.std.specs.Prelude.{◌≡◌, ℕ, ◌<◌, List, All, length, slice_index_or, slice_set}
use Rattle.sil_model.specs.State.{FullState, start_of}
use Rattle.sil_model.specs.Events.{Event, events_of}
use Rattle.sil_model.specs.LoopValue.{groups_of}
use Rattle.sil_model.specs.Sizes.{states_of}
use Rattle.sil_model.specs.Counts.{IsCounts, count_in, counts_at_start, counts_numbered}
use Rattle.sil_model.specs.declared.parts.Chan.{Chan}
use Rattle.sil_model.specs.declared.parts.Group.{Group}
use Rattle.sil_model.specs.declared.parts.Subsystem.{Subsystem}
use Rattle.count_laws.specs.SameCounts.{count_in_group, IsFull, IsSameCounts}
use Rattle.lumped_laws.specs.CountsOfState.{counts_of_state, number_of_state}
use Rattle.lumped_laws.specs.StateOfCounts.{state_of_counts, state_numbered}

module _ (us : List Subsystem) where
  -- an event leads from full states to full states
  abbrev pub KeepsFull : Event → Type 0
  KeepsFull e = (s : FullState) → IsFull us s → IsFull us (e.move s)

  -- and so to count vectors
  abbrev pub IsCountedAfter : Event → Type 0
  IsCountedAfter e = (s : FullState) → IsFull us s → IsCounts (groups_of us) (counts_of_state us (e.move s))

  -- a full state and its count vector
  pub record StateLaw : Type 0 where
    -- each count vector is that of its full state, which is full
    pub back : (cs : List ℕ) → IsCounts (groups_of us) cs → counts_of_state us (state_of_counts (groups_of us) cs) ≡ cs
    pub full : (cs : List ℕ) → IsCounts (groups_of us) cs → IsFull us (state_of_counts (groups_of us) cs)
    -- each full state has a count vector, with each count of each group
    pub valid : (s : FullState) → IsFull us s → IsCounts (groups_of us) (counts_of_state us s)
    pub counts : (s : FullState) (g : ℕ) (x : Group) → g < length (groups_of us) → (k : Chan)
        → count_in (counts_of_state us s) g k ≡ count_in_group us (slice_index_or (groups_of us) g x) k s
    -- so two full states have the same counts exactly where they have the same count vector
    pub same : (s t : FullState) → IsFull us s → IsFull us t → counts_of_state us s ≡ counts_of_state us t → IsSameCounts us s t
    pub same_vector : (s t : FullState) → IsSameCounts us s t → counts_of_state us s ≡ counts_of_state us t
    -- its number is one of a lumped state, whose full state has the same counts
    pub below : (s : FullState) → IsFull us s → number_of_state us s < states_of us
    pub numbered : (s : FullState) → IsFull us s → counts_numbered (groups_of us) (number_of_state us s) ≡ counts_of_state us s
    pub alike : (s : FullState) → IsFull us s → IsSameCounts us s (state_numbered us (number_of_state us s))
    -- each number below the number of states is that of its full state; the others have one too, and nothing asks for it
    pub number : (i : ℕ) → i < states_of us → number_of_state us (state_numbered us i) ≡ i
    pub numbered_full : (i : ℕ) → IsFull us (state_numbered us i)
    -- the start is the full state of the number 0
    pub start_full : IsFull us (start_of us)
    pub start_state : state_of_counts (groups_of us) (counts_at_start (groups_of us)) ≡ start_of us
    pub start_first : number_of_state us (start_of us) ≡ 0
    -- events and tests lead from full states to full states, which have count vectors
    pub events : All KeepsFull (events_of us)
    pub events_counted : All IsCountedAfter (events_of us)
    pub tests : (s : FullState) (c : ℕ) (k : Chan) → IsFull us s → IsFull us (slice_set s c k)
    pub tests_counted : (s : FullState) (c : ℕ) (k : Chan) → IsFull us s → IsCounts (groups_of us) (counts_of_state us (slice_set s c k))
