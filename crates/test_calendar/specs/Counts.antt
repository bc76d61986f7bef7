-- How many tests a channel has.
use Rattle.std.specs.Prelude.{ℕ, zero, suc, ◌+◌, ◌-◌, Option, Some, None}
use Rattle.sil_model.specs.declared.parts.TestPlan.{TestPlan}
use Rattle.sil_model.specs.Calendar.{first_test, ceiling}

module _ (mission : ℕ) where
  -- the tests of the channel i of a subsystem before the mission ends
  abbrev pub channel_count : TestPlan → ℕ → ℕ
  channel_count p i = ceiling (mission - first_test p i) p.every

  -- those of the n channels from i on
  abbrev pub channels_count : Option TestPlan → ℕ → ℕ → ℕ
  channels_count None i n = 0
  channels_count (Some p) i zero = 0
  channels_count (Some p) i (suc n) = channel_count p i + channels_count (Some p) (suc i) n
