-- When a group is tested, apart from the length of the mission.
use Rattle.std.specs.Prelude.{ℕ, ◌<◌, ◌≤◌}
use Rattle.sil_model.specs.LoopValue.{IsWithin}

-- the number of a group, the hour of its first test, the hours from one test to the next, and which tests are full
pub record Repeats : Type 0 where
  pub group : ℕ
  pub first : ℕ
  pub every : ℕ
  pub full_each : ℕ

-- the first test is not at the start, and one comes after another
pub record IsRepeating (r : Repeats) : Type 0 where
  pub first : IsWithin 1 3_000_000 r.first
  pub every : 0 < r.every
  pub often : r.every ≤ 350_400
  pub full_each : 0 < r.full_each
