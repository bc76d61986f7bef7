-- How often the events of a valid loop happen.
use Rattle.std.proofs.Common.{ℕ, ◌*◌, ◌^◌, ◌<◌, ◌≤◌, List, arith}
use Rattle.std.specs.Prelude.{true, false, All}
use Rattle.std.proofs.Math.Nat.{mul-le-mul, mul-pos}
use Rattle.sil_model.specs.Events.{Failure, Kind, failed, source, target}
use Rattle.sil_model.specs.Events.Failure.{Undetected, Uncovered, Detected}
use Rattle.sil_model.specs.Events.Kind.{Fails as FailsBy, Returns}
use Rattle.sil_model.specs.LoopValue.{IsSubsystemInRange}
use Rattle.sil_model.specs.declared.parts.Chan.TheVariants.{Work}
use Rattle.sil_model.specs.declared.parts.Subsystem.{Subsystem}
use Rattle.common_cause.specs.declared.event.Rate.TheVariants.{Fails}
use Rattle.common_cause.specs.declared.event.LumpEvent.{LumpEvent}
use Rattle.common_cause.specs.declared.share.Share.{Share}
use Rattle.common_cause.specs.Shares.{IsSmallShare}
use Rattle.common_cause.specs.LumpEvents.{failure_units, common_units, kind_rate, lump_events_of}
use Rattle.common_cause.specs.InLoop.{IsInLoop}
use Rattle.common_cause.proofs.InLoop.{each-event}
use Rattle.product_chain.specs.Steps.{upper, lower}

-- an event stands in its loop, and its rate is small
pub record IsFair (us : List Subsystem) (e : LumpEvent) : Type 0 where
  pub in_loop : IsInLoop us e
  pub positive : (share : Share) → IsSmallShare share → 0 < lower share e.rate
  pub small : (share : Share) → IsSmallShare share → lower share e.rate ≤ 10 ^ 18
  pub slow : (share : Share) → IsSmallShare share → upper share e.rate ≤ 10 ^ 15

product-small : (a b d : ℕ) → a ≤ 1000 → b ≤ 1000 → d ≤ 10 ^ 9 → a * b * d ≤ 10 ^ 15
product-small a b d p q r = omega (arith, mul-le-mul (mul-le-mul p q) r)

product-small-two : (a d : ℕ) → a ≤ 1000 → d ≤ 10 ^ 9 → 1000 * (a * d) ≤ 10 ^ 15
product-small-two a d p r = omega (arith, mul-le-mul p r)

module _ (u : Subsystem) (v : IsSubsystemInRange u) where
  failure-small : (f : Failure) → failure_units u f ≤ 10 ^ 15
  failure-small Undetected = product-small _ _ _ (omega arith) (v.figures.coverage) (v.figures.du)
  failure-small Uncovered = product-small _ _ _ (omega arith) (omega arith) (v.figures.du)
  failure-small Detected = product-small-two _ _ (omega arith) (v.figures.dd)

  common-small : (f : Failure) → common_units u f ≤ 10 ^ 15
  common-small Undetected = product-small _ _ _ (v.figures.beta) (v.figures.coverage) (v.figures.du)
  common-small Uncovered = product-small _ _ _ (v.figures.beta) (omega arith) (v.figures.du)
  common-small Detected = product-small-two _ _ (v.figures.beta_d) (v.figures.dd)

  module _ (us : List Subsystem) (i g : ℕ) where
    channel_fair : (k : Kind)
        → IsInLoop us (record { subsystem = i; group = g; whole = false; from = source k; to = target k; rate = kind_rate u k })
        → IsFair us (record { subsystem = i; group = g; whole = false; from = source k; to = target k; rate = kind_rate u k })
    channel_fair (FailsBy f) h = record { in_loop = h; positive = λ share p. omega arith; small = λ share p. omega arith; slow = λ share p. failure-small f }
    channel_fair Returns h = record {
      in_loop = h;
      positive = λ share p. mul-pos (omega (arith, v.figures.repair.above)) (omega (arith, p.some, p.most));
      small = λ share p. omega (arith, mul-le-mul v.figures.repair.below p.small);
      slow = λ share p. omega (arith, p.most, p.small);
    }

    common_fair : (f : Failure)
        → IsInLoop us (record { subsystem = i; group = g; whole = true; from = Work; to = failed f; rate = Fails (common_units u f) })
        → IsFair us (record { subsystem = i; group = g; whole = true; from = Work; to = failed f; rate = Fails (common_units u f) })
    common_fair f h = record { in_loop = h; positive = λ share p. omega arith; small = λ share p. omega arith; slow = λ share p. common-small f }

pub events_fair : (us : List Subsystem) → All IsSubsystemInRange us → All (IsFair us) (lump_events_of us)
events_fair us =
    each-event us IsSubsystemInRange (IsFair us) (λ u v i g k h. channel_fair u v us i g k h) (λ u v i g f h. common_fair u v us i g f h)
