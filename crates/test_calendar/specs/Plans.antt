-- The tests of the groups, each asked by itself.
use Rattle.std.specs.Prelude.{ℕ, suc, ◌+◌, ◌-◌, ◌/◌, ◌%◌, Bool, ◌&&◌, List, [], ◌∷◌, ◌++◌, length, Option, Some, None, nat_le, ◌==◌, if◌then◌else◌}
use Rattle.std.specs.List.{list_any, filter_map}
use Rattle.sil_model.specs.declared.parts.Group.{Group}
use Rattle.sil_model.specs.declared.parts.Subsystem.{Subsystem}
use Rattle.sil_model.specs.declared.parts.TestPlan.{TestPlan}
use Rattle.sil_model.specs.LoopValue.{groups_by_test}
use Rattle.sil_model.specs.Calendar.{first_test}
use Rattle.test_calendar.specs.declared.groups.GroupTest.{GroupTest}
use Rattle.test_calendar.specs.Repeats.{Repeats}

-- when a group of this plan and number is tested
abbrev pub repeats_of : TestPlan → ℕ → Group → Repeats
repeats_of p g x = record { group = g; first = first_test p x.first_channel; every = p.every; full_each = p.full_each }

-- the groups that are tested, of groups with one plan, numbered from g on
abbrev pub repeats_by_test : Option TestPlan → ℕ → List Group → List Repeats
repeats_by_test None g xs = []
repeats_by_test (Some p) g [] = []
repeats_by_test (Some p) g (x ∷ xs) = repeats_of p g x ∷ repeats_by_test (Some p) (suc g) xs

-- those of the subsystems from the number i on
abbrev pub repeats_from : ℕ → ℕ → List Subsystem → List Repeats
repeats_from i g [] = []
repeats_from i g (u ∷ us) =
    repeats_by_test u.test g (groups_by_test i u.vote.n u.test) ++ repeats_from (suc i) (g + length (groups_by_test i u.vote.n u.test)) us

-- whether it is tested at the hour t, and whether in full
abbrev pub repeats_at : ℕ → Repeats → Bool
repeats_at t r = nat_le r.first t && (t - r.first) % r.every == 0

abbrev pub is_full_at : ℕ → Repeats → Bool
is_full_at t r = ((t - r.first) / r.every + 1) % r.full_each == 0

-- its test at the hour t, if there is one
abbrev pub test_by : ℕ → Repeats → Option GroupTest
test_by t r = if repeats_at t r then Some (record { group = r.group; full = is_full_at t r }) else None

-- whether some group is tested at the hour t
unfoldable pub has_tests : List Repeats → ℕ → Bool
has_tests rs t = list_any (repeats_at t) rs

-- the group tests of the hour t
unfoldable pub tests_by : List Repeats → ℕ → List GroupTest
tests_by rs t = filter_map (test_by t) rs
