-- The proof tests of an hour group by group, and the tests of channels that they stand for.
use Rattle.std.specs.Prelude.{ℕ, zero, suc, ◌+◌, Bool, List, [], ◌∷◌, ◌++◌, length, map, Option, Some, None, if◌then◌else◌, slice_index_or}
use Rattle.std.specs.List.{flat_map}
use Rattle.sil_fraction.specs.Fraction.{Fraction, ratio, whole}
use Rattle.sil_model.specs.declared.parts.Group.{Group}
use Rattle.sil_model.specs.declared.parts.Subsystem.{Subsystem}
use Rattle.sil_model.specs.declared.parts.TestPlan.{TestPlan}
use Rattle.sil_model.specs.LoopValue.{LoopValue, groups_by_test}
use Rattle.sil_model.specs.Calendar.{ChannelTest, is_tested, is_full}
use Rattle.count_laws.specs.GroupChannels.{GroupChannels, group_channels_of}
use Rattle.test_calendar.specs.declared.groups.GroupTest.{GroupTest}

module _ (mission t : ℕ) where
  -- the tests at the hour t of groups with one test plan, numbered from g on: a group is tested where its first channel is
  abbrev pub tests_of_groups : Option TestPlan → ℕ → List Group → List GroupTest
  tests_of_groups None g xs = []
  tests_of_groups (Some p) g [] = []
  tests_of_groups (Some p) g (x ∷ xs) = (if is_tested mission t p x.first_channel
      then record { group = g; full = is_full mission t p x.first_channel } ∷ []
      else []) ++ tests_of_groups (Some p) (suc g) xs

  -- those of the groups of the subsystems from the number i on
  abbrev pub group_tests_from : ℕ → ℕ → List Subsystem → List GroupTest
  group_tests_from i g [] = []
  group_tests_from i g (u ∷ us) =
      tests_of_groups u.test g (groups_by_test i u.vote.n u.test) ++ group_tests_from (suc i) (g + length (groups_by_test i u.vote.n u.test)) us

-- the group tests of the hour t, in order of groups
unfoldable pub group_tests_at : LoopValue → ℕ → List GroupTest
group_tests_at l t = group_tests_from l.mission t 0 0 l.subsystems

-- the tests of n channels from the number c on
abbrev pub tests_of_channels : Bool → Fraction → ℕ → ℕ → List ChannelTest
tests_of_channels full fault c zero = []
tests_of_channels full fault c (suc n) = record { channel = c; full = full; fault = fault } ∷ tests_of_channels full fault (suc c) n

abbrev pub spread : List GroupChannels → GroupTest → List ChannelTest
spread gs x =
    let g = slice_index_or gs x.group (record { first = 0; size = 0; fault = whole 0 }) in
    tests_of_channels x.full g.fault g.first g.size

-- the tests of channels that group tests stand for: each channel of each of the groups
unfoldable pub spread_over : List Subsystem → List GroupTest → List ChannelTest
spread_over us xs = flat_map (spread (group_channels_of us)) xs
