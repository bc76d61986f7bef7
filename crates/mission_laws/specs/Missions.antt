-- What the dwell of a whole mission says of its figures.
use Rattle.std.specs.Prelude.{◌≡◌, ℕ, ◌+◌, ◌-◌, ◌*◌, ◌/◌, ◌^◌, ◌<◌, List, length, slice_index}
use Rattle.sil_fraction.specs.Fraction.{Fraction, ◌+ℚ◌, ◌*ℚ◌, ◌≤ℚ◌, whole}
use Rattle.sil_model.specs.Calendar.{ceiling}
use Rattle.sil_model.specs.LoopValue.{LoopValue}
use Rattle.sil_model.specs.Pay.{schedule_of}
use Rattle.sil_model.specs.Pay.Mode.{Down, Up, Entry}
use Rattle.lumped_laws.specs.PayList.{payoff_list, pay_list}
use Rattle.vector_laws.specs.Vectors.{weigh}
use Rattle.mission_laws.specs.Counted.{counted_list}
use Rattle.mission_laws.specs.Calm.{calm_list, staying}

-- the dwell of a mission in hours, what has passed at its test hours at least, and what has stayed, by the series up to the
-- order n: none is more than was expected
pub record HasCounted (l : LoopValue) (greatest : Fraction) (n : ℕ) (dwell : List ℕ) (passed stayed : ℕ) : Type 0 where
  pub down : weigh dwell (payoff_list l.subsystems Down) ≤ℚ whole (2 ^ 48) *ℚ pay_list l.subsystems n Down (schedule_of l) 0
  pub up : weigh dwell (payoff_list l.subsystems Up) ≤ℚ whole (2 ^ 48) *ℚ pay_list l.subsystems n Up (schedule_of l) 0
  pub entry : weigh dwell (payoff_list l.subsystems Entry) +ℚ whole passed ≤ℚ whole (2 ^ 48) *ℚ pay_list l.subsystems n Entry (schedule_of l) 0
  pub calm : weigh dwell (calm_list l.subsystems greatest) +ℚ whole stayed
      ≤ℚ whole (2 ^ 48) *ℚ counted_list l.subsystems n (calm_list l.subsystems greatest) (staying l.subsystems) (λ i. whole 0) (schedule_of l) 0

-- the mean over so many hours, rounded down at each place
pub record AreMeans (hours : ℕ) (dwell means : List ℕ) : Type 0 where
  pub as_many : length means ≡ length dwell
  pub floors : (i : ℕ) → i < length dwell → slice_index means i ≡ slice_index dwell i / hours

-- the ends of PFDavg by the means where the loop is down and where it is up
abbrev pub pfd_lower : ℕ → ℕ
pfd_lower down = down * 10 ^ 18 / 2 ^ 48

abbrev pub pfd_upper : ℕ → ℕ
pfd_upper up = ceiling ((2 ^ 48 - up) * 10 ^ 18) (2 ^ 48)

-- the ends of PFH: entries, in 10^-18 per hour times units of 2^-48; the greatest rate of all failures, in 10^-18 per hour;
-- what the means lack; what has passed at tests, in units of 2^-48, at least and at most, over the mission
abbrev pub pfh_lower : ℕ → ℕ → ℕ → ℕ
pfh_lower mission entries least = (entries + 10 ^ 18 * least / mission) / 2 ^ 48

abbrev pub pfh_upper : ℕ → ℕ → ℕ → ℕ → ℕ → ℕ
pfh_upper mission entries greatest lack most = ceiling (entries + greatest * lack + ceiling (10 ^ 18 * most) mission) (2 ^ 48)
