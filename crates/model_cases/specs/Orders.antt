-- A beat at two orders of the series, the errors of the figures of small loops, and bounds of a real number.
use Rattle.std.specs.Prelude.{◌≡◌, [], ◌∷◌}
use Rattle.sil_fraction.specs.Fraction.{◌+ℚ◌, ◌≤ℚ◌, ratio, whole}
use Rattle.sil_model.specs.Series.{series_of}
use Rattle.sil_model.specs.LoopValue.{LoopValue}
use Rattle.sil_model.specs.Pay.{pay_of}
use Rattle.sil_model.specs.Pay.Mode.{Down, AtEnd}
use Rattle.sil_model.specs.declared.parts.Chan.TheVariants.{Work}
use Rattle.limit_laws.specs.Real.{Real, IsBetween, Approaches, real_of}
use Rattle.limit_laws.specs.Bounds.{remainder_of, pay_error, chance_error, entry_error}
use Rattle.model_cases.specs.Cases.{one_channel, tested_channel, half_hour}

-- three phases of three beats each
abbrev pub tested_loop : LoopValue
tested_loop = record { mission = 6; order = 16; subsystems = tested_channel }

pub record OrderCases : Type 0 where
  -- one channel after a beat and during it at the order 3: at the order 2 it was hidden with the chance 79/2000, and 1/160 hours
  pub after_a_beat : pay_of one_channel 3 AtEnd (half_hour ∷ []) (Work ∷ []) ≡ ratio 5881 128_000
  pub during_a_beat : pay_of one_channel 3 Down (half_hour ∷ []) (Work ∷ []) ≡ ratio 119 12_000
  -- the two orders differ by less than the remainder of the series, and than the error of a schedule of this beat
  pub differ : ratio 5881 128_000 ≡ ratio 79 2000 +ℚ ratio 33 5120
  pub remainder : remainder_of 2 ≡ ratio 1 3
  pub within : ratio 33 5120 ≤ℚ ratio 1 3
  pub schedule_error : pay_error 3 AtEnd (half_hour ∷ []) ≡ ratio 1 3
  -- the errors of PFDavg and of PFH at the order 5, with nine beats and two test hours in six hours
  pub chance : chance_error 5 tested_loop ≡ ratio 3 20
  pub entries : entry_error 5 tested_loop ≡ ratio 11 40
  -- the number that the series approaches, Euler's number, is between 2.7138 and 2.7195
  pub euler : (e : Real) → Approaches series_of e → IsBetween (ratio 977 360) (ratio 979 360) e
  -- a number is not between bounds that are both below it or both above it
  pub not_above : IsBetween (ratio 1 3) (ratio 1 2) (real_of (whole 1)) → ⊥
  pub not_below : IsBetween (ratio 1 3) (ratio 1 2) (real_of (ratio 1 4)) → ⊥
