-- What is counted over a schedule, whatever is counted per hour of a beat and at the tests of an hour.
use Rattle.std.specs.Prelude.{ℕ, ◌+◌, List, [], ◌∷◌, if◌then◌else◌}
use Rattle.sil_fraction.specs.Fraction.{◌+ℚ◌, ◌*ℚ◌, whole}
use Rattle.sil_model.specs.Series.{Values}
use Rattle.sil_model.specs.Calendar.{ChannelTest}
use Rattle.sil_model.specs.Pay.{Item}
use Rattle.sil_model.specs.Pay.Item.{Beat, Tests}
use Rattle.sil_model.specs.declared.parts.Subsystem.{Subsystem}
use Rattle.lumped_laws.specs.ValueLists.{beat_list, mean_list, test_list}

-- the tests of hours in a schedule
unfoldable pub test_hours_in : List Item → ℕ
test_hours_in [] = 0
test_hours_in (Beat h counts ∷ rest) = test_hours_in rest
test_hours_in (Tests ts ∷ rest) = test_hours_in rest + 1

-- what is expected to be counted from each number on, by the series up to the order n: so much per hour of a beat that counts,
-- so much at the tests of an hour, and so much at the end
module _ (us : List Subsystem) (n : ℕ) (hourly : Values ℕ) (at_tests : List ChannelTest → Values ℕ) (last : Values ℕ) where
  unfoldable pub counted_list : List Item → Values ℕ
  counted_list [] i = last i
  counted_list (Beat h counts ∷ rest) i = beat_list us n h (counted_list rest) i
      +ℚ (if counts then h *ℚ mean_list us n h hourly i else whole 0)
  counted_list (Tests ts ∷ rest) i = test_list us ts (counted_list rest) i +ℚ at_tests ts i
