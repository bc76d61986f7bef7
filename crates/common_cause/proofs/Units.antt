-- The rates in 10^-18 per hour, against their fractions.
use Rattle.std.proofs.Common.{◌≡◌, ℕ, ◌-◌, ◌*◌, ◌^◌, ◌<◌, refl, arith}
use Rattle.sil_fraction.specs.Ratio.{sub, whole_ratio}
use Rattle.sil_fraction.specs.Fraction.{Fraction, of, ◌*ℚ◌, ◌-ℚ◌, whole, ratio}
use Rattle.sil_fraction.proofs.Laws.{same, ratio-positive, ratio-mul, ratio-same}
use Rattle.sil_model.specs.Events.{Failure, thousandths, per_hour, rest_of, failure_rate, common_rate}
use Rattle.sil_model.specs.Events.Failure.{Undetected, Uncovered, Detected}
use Rattle.sil_model.specs.declared.parts.Subsystem.{Subsystem}
use Rattle.common_cause.specs.LumpEvents.{failure_units, common_units}

rest_thousandths : (n : ℕ) → rest_of (thousandths n) ≡ thousandths (1000 - n)
unfolding ◌-ℚ◌ Fraction of whole
rest_thousandths n =
    let p : 0 < 1000 = omega arith in
    rw (ratio-positive n 1000 p, ratio-positive (1000 - n) 1000 p) (same (sub (whole_ratio 1) (record { num = n; den = 1000; positive = p }))
    (record { num = 1000 - n; den = 1000; positive = p }) (omega arith))

three : (a b d : ℕ) → thousandths a *ℚ thousandths b *ℚ per_hour d ≡ ratio (a * b * d) (10 ^ 18)
three a b d = rw (ratio-mul a 1000 b 1000 (omega arith) (omega arith), ratio-mul (a * b) (1000 * 1000) d (10 ^ 12) (omega arith) (omega arith)) refl

two : (a d : ℕ) → thousandths a *ℚ per_hour d ≡ ratio (1000 * (a * d)) (10 ^ 18)
two a d = rw (ratio-mul a 1000 d (10 ^ 12) (omega arith) (omega arith)) (ratio-same _ _ _ _ (omega arith) (omega arith) (omega arith))

module _ (u : Subsystem) where
  pub failure_in_units : (f : Failure) → failure_rate u f ≡ ratio (failure_units u f) (10 ^ 18)
  unfolding failure_rate
  failure_in_units Undetected = rw (rest_thousandths u.figures.beta) (three _ _ _)
  failure_in_units Uncovered = rw (rest_thousandths u.figures.beta, rest_thousandths u.figures.coverage) (three _ _ _)
  failure_in_units Detected = rw (rest_thousandths u.figures.beta_d) (two _ _)

  pub common_in_units : (f : Failure) → common_rate u f ≡ ratio (common_units u f) (10 ^ 18)
  unfolding common_rate
  common_in_units Undetected = three _ _ _
  common_in_units Uncovered = rw (rest_thousandths u.figures.coverage) (three _ _ _)
  common_in_units Detected = two _ _
