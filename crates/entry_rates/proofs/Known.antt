-- The repairs of a loop lead from repair to work.
use Rattle.std.proofs.Common.{◌≡◌, ℕ, List, refl}
use Rattle.std.specs.Prelude.{false, All}
use Rattle.sil_model.specs.Events.{Kind, source, target}
use Rattle.sil_model.specs.Events.Kind.{Fails as FailsBy, Returns}
use Rattle.sil_model.specs.declared.parts.Chan.TheVariants.{Work, Repair}
use Rattle.sil_model.specs.declared.parts.Subsystem.{Subsystem}
use Rattle.common_cause.specs.declared.event.Rate.TheVariants.{Repairs}
use Rattle.common_cause.specs.declared.event.LumpEvent.{LumpEvent}
use Rattle.common_cause.specs.LumpEvents.{kind_rate, lump_events_of}
use Rattle.common_cause.specs.InLoop.{IsInLoop}
use Rattle.common_cause.proofs.InLoop.{each-event}

-- a repair brings one channel back to work
pub record IsRepair (e : LumpEvent) : Type 0 where
  pub alone : e.whole ≡ false
  pub from : e.from ≡ Repair
  pub to : e.to ≡ Work

pub record IsKnown (us : List Subsystem) (e : LumpEvent) : Type 0 where
  pub in_loop : IsInLoop us e
  pub repair : (n : ℕ) → e.rate ≡ Repairs n → IsRepair e

module _ (us : List Subsystem) where
  of_channel : (u : Subsystem) → u ≡ u → (i g : ℕ) (k : Kind)
      → IsInLoop us (record { subsystem = i; group = g; whole = false; from = source k; to = target k; rate = kind_rate u k })
      → IsKnown us (record { subsystem = i; group = g; whole = false; from = source k; to = target k; rate = kind_rate u k })
  of_channel u q i g (FailsBy f) h = record { in_loop = h; repair = λ n e. cc }
  of_channel u q i g Returns h = record { in_loop = h; repair = λ n e. record { alone = refl; from = refl; to = refl } }

  pub events-known : All (IsKnown us) (lump_events_of us)
  events-known =
      each-event us (λ u. u ≡ u) (IsKnown us) of_channel
      (λ u q i g f h. record { in_loop = h; repair = λ n e. cc }) (λ k d h. refl)
