-- What a vector that is pushed through a mission has paid.
use Rattle.std.specs.Prelude.{ℕ, ◌^◌, List}
use Rattle.sil_fraction.specs.Fraction.{◌+ℚ◌, ◌*ℚ◌, ◌≤ℚ◌, whole}
use Rattle.sil_model.specs.Series.{Values}
use Rattle.sil_model.specs.Calendar.{ChannelTest}
use Rattle.sil_model.specs.Pay.{Item}
use Rattle.sil_model.specs.declared.parts.Subsystem.{Subsystem}
use Rattle.vector_laws.specs.Vectors.{weigh}
use Rattle.mission_laws.specs.Counted.{counted_list}

-- what was counted in the hours so far and at tests, and what the vector weighs by what is still expected, is at most what
-- was expected from the start
pub record HasPaid (us : List Subsystem) (n : ℕ) (hourly : Values ℕ) (at_tests : List ChannelTest → Values ℕ) (last : Values ℕ)
    (all left : List Item) (dwell v : List ℕ) (passed : ℕ) : Type 0 where
  pub paid : (weigh dwell hourly +ℚ whole passed) +ℚ weigh v (counted_list us n hourly at_tests last left)
      ≤ℚ whole (2 ^ 48) *ℚ counted_list us n hourly at_tests last all 0
