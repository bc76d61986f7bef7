-- Where the tests of a group lead from count vectors.
use Rattle.std.specs.Prelude.{◌≡◌, ℕ, ◌*◌, ◌<◌, ◌≤◌, min, Bool, true, false, List, length, slice_index, All, if◌then◌else◌}
use Rattle.sil_fraction.specs.Fraction.{Fraction}
use Rattle.sil_model.specs.LoopValue.{groups_of}
use Rattle.sil_model.specs.Sizes.{channel_states, states_of}
use Rattle.sil_model.specs.Counts.{count_in, moved_in, number_of, counts_numbered}
use Rattle.sil_model.specs.declared.parts.Chan.{Chan}
use Rattle.sil_model.specs.declared.parts.Chan.TheVariants.{Work, Hidden, Deep, Repair}
use Rattle.sil_model.specs.declared.parts.Group.{Group}
use Rattle.sil_model.specs.declared.parts.Subsystem.{Subsystem}
use Rattle.test_matrix.specs.Rows.{AreWeights}
use Rattle.test_matrix.specs.declared.places.GroupTables.{GroupTables}

-- room for a count vector, and one of these groups, of which none is large
pub record IsRoomy (gs : List Group) (g : ℕ) (counts : List ℕ) : Type 0 where
  pub room : length counts ≡ channel_states * length gs
  pub inside : g < length gs
  pub sizes : All (λ x. x.size ≤ 8) gs

-- all channels of the group g that are in one state go to another
abbrev pub all_moved : List ℕ → ℕ → Chan → Chan → List ℕ
all_moved cs g from to = moved_in cs g from to (count_in cs g from)

-- the counts after the tests of the group g, where no channel fails at them
abbrev pub settled_counts : Bool → ℕ → List ℕ → List ℕ
settled_counts full g cs =
    let found = all_moved cs g Hidden Repair in
    if full then all_moved found g Deep Repair else found

-- the counts after one failure of a working channel of the group g, if one works
abbrev pub failed_counts : ℕ → List ℕ → List ℕ
failed_counts g cs = moved_in cs g Work Hidden (min (count_in cs g Work) 1)

module _ (us : List Subsystem) where
  -- for each number of a count vector, the number of what F makes of it
  pub record AreNumbers (F : List ℕ → List ℕ) (xs : List ℕ) : Type 0 where
    pub as_many : length xs ≡ states_of us
    pub number : (i : ℕ) → i < states_of us → slice_index xs i ≡ number_of (groups_of us) (F (counts_numbered (groups_of us) i))
    pub below : (i : ℕ) → i < states_of us → slice_index xs i < states_of us

  -- for each number of a count vector, how many channels of the group g work
  pub record AreWorking (g : ℕ) (xs : List ℕ) : Type 0 where
    pub as_many : length xs ≡ states_of us
    pub number : (i : ℕ) → i < states_of us → slice_index xs i ≡ count_in (counts_numbered (groups_of us) i) g Work
    pub few : (i : ℕ) → i < states_of us → slice_index xs i < 9

  -- the tables of the group g, whose channels fail at their tests with this chance
  pub record AreTables (g : ℕ) (chance : Fraction) (t : GroupTables) : Type 0 where
    pub weights : AreWeights t.rows chance
    pub working : AreWorking g t.works.items
    pub partial : AreNumbers (settled_counts false g) t.partial.items
    pub full : AreNumbers (settled_counts true g) t.full.items
    pub failed : AreNumbers (failed_counts g) t.failed.items
