-- The group tests of an hour, and the tests of channels that they stand for.
use Rattle.std.specs.Prelude.{◌≡◌, ℕ, suc, ◌<◌, List, [], length, map, All, slice_index_or}
use Rattle.sil_model.specs.LoopValue.{LoopValue, groups_of}
use Rattle.sil_model.specs.Calendar.{ChannelTest, phases_of, test_hours_of, tests_at}
use Rattle.sil_model.specs.Figures.{no_phase}
use Rattle.sil_model.specs.declared.parts.Subsystem.{Subsystem}
use Rattle.test_calendar.specs.GroupTests.{group_tests_at, spread_over}
use Rattle.test_calendar.specs.declared.groups.GroupTest.{GroupTest}

-- all these groups are groups of the loop
abbrev pub Exist : List Subsystem → List GroupTest → Type 0
Exist us tests = All (λ (t : GroupTest). t.group < length (groups_of us)) tests

-- group tests of groups that exist, which stand for these tests of channels
pub record AreTestsOf (us : List Subsystem) (tests : List GroupTest) (ts : List ChannelTest) : Type 0 where
  pub exist : Exist us tests
  pub channels : spread_over us tests ≡ ts

-- the group tests that a plan has after the phase p are those of the hour at which the next phase begins
abbrev pub HourLaw : LoopValue → Type 0
HourLaw l = (p : ℕ) → p < length (test_hours_of l)
    → AreTestsOf l.subsystems (slice_index_or (map (group_tests_at l) (test_hours_of l)) p [])
    (tests_at l (slice_index_or (phases_of l) (suc p) no_phase).start)
