-- What is left of the greatest rate at which an up loop may go down, and of a passage at tests.
use Rattle.std.specs.Prelude.{ℕ, List}
use Rattle.sil_fraction.specs.Fraction.{Fraction, ◌-ℚ◌, whole}
use Rattle.sil_model.specs.Series.{Values}
use Rattle.sil_model.specs.Calendar.{ChannelTest}
use Rattle.sil_model.specs.Pay.Mode.{Entry}
use Rattle.sil_model.specs.declared.parts.Subsystem.{Subsystem}
use Rattle.lumped_laws.specs.ValueLists.{passing}
use Rattle.lumped_laws.specs.PayList.{payoff_list}

module _ (us : List Subsystem) where
  -- by which the rate at which the loop goes down is below the greatest
  abbrev pub calm_list : Fraction → Values ℕ
  calm_list greatest i = greatest -ℚ payoff_list us Entry i

  -- the chance that the loop does not pass from up to down at the tests of an hour
  abbrev pub staying : List ChannelTest → Values ℕ
  staying ts i = whole 1 -ℚ passing us ts i
