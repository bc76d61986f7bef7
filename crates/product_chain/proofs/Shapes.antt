-- The events of a loop by their shape: channels that work fail, or one that was repaired in a group returns.
use Rattle.std.proofs.Common.{◌≡◌, ◌≢◌, ℕ, zero, suc, ◌+◌, ◌-◌, ◌*◌, ◌^◌, ◌<◌, List, [], ◌∷◌, ◌++◌, refl, sym, ap, ◌∙◌, arith}
use Rattle.std.specs.Prelude.{Bool, true, false, All, if◌then◌else◌, nat_lt}
use Rattle.std.proofs.lemmas.Bool.{lt-ltb, le-ltb}
use Rattle.std.proofs.lemmas.List.Elements.{All-append, All-cons, All-nil}
use Rattle.sil_model.specs.Events.{Failure, failed}
use Rattle.sil_model.specs.Events.Failure.{Undetected, Uncovered, Detected}
use Rattle.sil_model.specs.Counts.{place_of}
use Rattle.sil_model.specs.declared.parts.Chan.TheVariants.{Work, Repair}
use Rattle.sil_model.specs.declared.parts.Subsystem.{Subsystem}
use Rattle.common_cause.specs.declared.event.LumpEvent.{LumpEvent}
use Rattle.common_cause.specs.declared.share.Share.{Share}
use Rattle.common_cause.specs.declared.event.Rate.TheVariants.{Fails, Repairs}
use Rattle.common_cause.specs.LumpEvents.{span_of, failure_units, common_units, group_events, groups_events, whole_events, lump_events_from, lump_events_of}
use Rattle.product_chain.specs.Steps.{lower}

-- the divisor of the rates at which channels fail
abbrev pub units : ℕ
units = 10 ^ 18

-- the hours of a repair in the group of a number
abbrev pub hours_at : List Subsystem → ℕ → ℕ
hours_at [] g = 0
hours_at (u ∷ us) g = if nat_lt g (span_of u) then u.figures.repair else hours_at us (g - span_of u)

-- the number of the subsystem of a group
abbrev pub owner_at : List Subsystem → ℕ → ℕ
owner_at [] g = 0
owner_at (u ∷ us) g = if nat_lt g (span_of u) then 0 else suc (owner_at us (g - span_of u))

pub data IsShaped : List Subsystem → LumpEvent → Type 0 where
  falls : {us : List Subsystem} {e : LumpEvent} → e.from ≡ Work → place_of Work ≢ place_of e.to
      → ((share : Share) → lower share e.rate ≡ units) → IsShaped us e
  returns : {us : List Subsystem} {e : LumpEvent} → e.whole ≡ false → e.from ≡ Repair → e.to ≡ Work
      → ((share : Share) → lower share e.rate ≡ hours_at us e.group * share.den) → e.subsystem ≡ owner_at us e.group → IsShaped us e

apart : (f : Failure) → place_of Work ≢ place_of (failed f)
apart Undetected e = absurd (omega (arith, e))
apart Uncovered e = absurd (omega (arith, e))
apart Detected e = absurd (omega (arith, e))

module _ (all : List Subsystem) where
  fails-shaped : (i g : ℕ) (w : Bool) (f : Failure) (r : ℕ)
      → IsShaped all (record { subsystem = i; group = g; whole = w; from = Work; to = failed f; rate = Fails r })
  fails-shaped i g w f r = falls refl (apart f) (λ share. refl)

  three : (a b c : LumpEvent) → IsShaped all a → IsShaped all b → IsShaped all c → All (IsShaped all) (a ∷ b ∷ c ∷ [])
  three a b c p q r =
      All-cons (IsShaped all) a (b ∷ c ∷ []) p (All-cons (IsShaped all) b (c ∷ []) q (All-cons (IsShaped all) c [] r (All-nil (IsShaped all))))

  four : (a b c d : LumpEvent) → IsShaped all a → IsShaped all b → IsShaped all c → IsShaped all d → All (IsShaped all) (a ∷ b ∷ c ∷ d ∷ [])
  four a b c d p q r s = All-cons (IsShaped all) a (b ∷ c ∷ d ∷ []) p (three b c d q r s)

  module _ (u : Subsystem) (i : ℕ) where
    group-shaped : (g : ℕ) → u.figures.repair ≡ hours_at all g → i ≡ owner_at all g → All (IsShaped all) (group_events u i g)
    group-shaped g hours own =
        four _ _ _ _ (alone Undetected) (alone Uncovered) (alone Detected) repaired
      where
        repaired : IsShaped all (record { subsystem = i; group = g; whole = false; from = Repair; to = Work; rate = Repairs u.figures.repair })
        repaired = returns refl refl refl (λ share. ap (λ n. n * share.den) hours) own

        alone : (f : Failure) → IsShaped all (record { subsystem = i; group = g; whole = false; from = Work; to = failed f; rate = Fails (failure_units u f) })
        alone f = fails-shaped i g false f (failure_units u f)

    groups-shaped : (g n : ℕ) → ((k : ℕ) → k < n → u.figures.repair ≡ hours_at all (g + k)) → ((k : ℕ) → k < n → i ≡ owner_at all (g + k))
        → All (IsShaped all) (groups_events u i g n)
    groups-shaped g zero hours own = All-nil (IsShaped all)
    groups-shaped g (suc n) hours own =
        let z : g + 0 ≡ g = omega arith in
        All-append (IsShaped all) (group_events u i g) (groups_events u i (suc g) n)
        (group-shaped g (rw z at (hours 0 (omega arith))) (rw z at (own 0 (omega arith))))
        (groups-shaped (suc g) n (λ k h. let e : suc g + k ≡ g + suc k = omega arith in rw e (hours (suc k) (omega arith)))
        (λ k h. let e : suc g + k ≡ g + suc k = omega arith in rw e (own (suc k) (omega arith))))

    wholes-shaped : (g : ℕ) → All (IsShaped all) (whole_events u i g)
    wholes-shaped g = three _ _ _ (together Undetected) (together Uncovered) (together Detected)
      where
        together : (f : Failure) → IsShaped all (record { subsystem = i; group = g; whole = true; from = Work; to = failed f; rate = Fails (common_units u f) })
        together f = fails-shaped i g true f (common_units u f)

  from-shaped : (us : List Subsystem) (i g : ℕ) → ((k : ℕ) → hours_at us k ≡ hours_at all (g + k))
      → ((k : ℕ) → i + owner_at us k ≡ owner_at all (g + k)) → All (IsShaped all) (lump_events_from i g us)
  unfolding lump_events_from
  from-shaped [] i g hours own = All-nil (IsShaped all)
  from-shaped (u ∷ us) i g hours own =
      All-append (IsShaped all) (groups_events u i g (span_of u) ++ whole_events u i g) (lump_events_from (suc i) (g + span_of u) us)
      (All-append (IsShaped all) (groups_events u i g (span_of u)) (whole_events u i g)
      (groups-shaped u i g (span_of u) (λ k h. rw (lt-ltb k (span_of u) h) at (hours k)) (λ k h.
      let z : i + 0 ≡ i = omega arith in
      rw z at (rw (lt-ltb k (span_of u) h) at (own k))))
      (wholes-shaped u i g))
      (from-shaped us (suc i) (g + span_of u) (λ k. rw (far k) (rw (past k, back k) at (hours (span_of u + k))))
      (λ k.
      let e : i + suc (owner_at us k) ≡ suc i + owner_at us k = omega arith in
      rw (far k) (rw e at (rw (past k, back k) at (own (span_of u + k))))))
    where
      past : (k : ℕ) → nat_lt (span_of u + k) (span_of u) ≡ false
      past k = le-ltb (span_of u + k) (span_of u) (omega arith)

      back : (k : ℕ) → span_of u + k - span_of u ≡ k
      back k = omega arith

      far : (k : ℕ) → g + span_of u + k ≡ g + (span_of u + k)
      far k = omega arith

pub events-shaped : (us : List Subsystem) → All (IsShaped us) (lump_events_of us)
unfolding lump_events_of
events-shaped us = from-shaped us us 0 0 (λ k. let e : 0 + k ≡ k = omega arith in rw e refl) (λ k.
    let e : 0 + k ≡ k = omega arith in
    let z : 0 + owner_at us k ≡ owner_at us k = omega arith in
    z ∙ ap (owner_at us) (sym e))
