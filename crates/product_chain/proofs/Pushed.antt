-- A turn of the loop over the events, at a count vector.
use Rattle.std.proofs.Common.{◌≡◌, ℕ, zero, suc, ◌*◌, ◌^◌, ◌<◌, ◌≤◌, List, [], ◌∷◌, length, get_or, refl, ap, arith}
use Rattle.std.specs.Prelude.{false}
use Rattle.std.proofs.Math.Nat.{mul-le-mul}
use Rattle.std.proofs.lemmas.List.Elements.{All-get_or}
use Rattle.sil_model.specs.LoopValue.{LoopValue, IsValid, groups_of}
use Rattle.sil_model.specs.Budget.{lumped_events_of}
use Rattle.sil_model.specs.Counts.{IsCounts, number_of, counts_numbered}
use Rattle.sil_model.specs.declared.parts.Chan.TheVariants.{Work}
use Rattle.sil_model.specs.declared.parts.Subsystem.{Subsystem}
use Rattle.sil_model.proofs.Groups.{groups-within}
use Rattle.common_cause.specs.declared.event.LumpEvent.{LumpEvent}
use Rattle.common_cause.specs.declared.event.Rate.TheVariants.{Fails}
use Rattle.common_cause.specs.LumpEvents.{lump_events_of}
use Rattle.common_cause.specs.LumpedRates.{spans, counts_after}
use Rattle.common_cause.specs.declared.share.Share.{Share}
use Rattle.common_cause.specs.Shares.{share_at}
use Rattle.common_cause.proofs.Shares.{shares-small}
use Rattle.common_cause.proofs.Listed.{length-events}
use Rattle.count_laws.proofs.Numbering.{counts_numbered-valid}
use Rattle.product_chain.specs.declared.step.Step.{Step}
use Rattle.product_chain.specs.Steps.{times, step_by, upper, lower}
use Rattle.product_chain.proofs.Events.{IsFair, events_fair}
use Rattle.common_cause.specs.InLoop.{IsCountsOf}

abbrev pub no_event : LumpEvent
no_event = record { subsystem = 0; group = 0; whole = false; from = Work; to = Work; rate = Fails 0 }

pub read : {A : Type 0} (xs : List A) (i : ℕ) (d : A) → i < length xs → get_or xs i d ≡ get_or xs i (get_or xs i d)
read [] i d h = absurd (omega arith)
read (x ∷ xs) zero d h = refl
read (x ∷ xs) (suc i) d h = read xs i d (omega arith)

-- there are few events
pub events-few : (l : LoopValue) → IsValid l → length (lump_events_of l.subsystems) ≤ 210
unfolding lumped_events_of
events-few l v = omega (arith, length-events l.subsystems, (groups-within l v).below, v.few.below)

module _ (l : LoopValue) (v : IsValid l) (es : List LumpEvent) (listed : es ≡ lump_events_of l.subsystems) (cs : List ℕ) (i : ℕ) (counts : cs
    ≡ counts_numbered (groups_of l.subsystems) i) (k : ℕ) (inside : k < length es) where
  abbrev us : List Subsystem
  us = l.subsystems

  abbrev e : LumpEvent
  e = get_or es k no_event

  pub fair : IsFair us e
  fair = All-get_or (IsFair us) es k no_event inside (rw listed (events_fair us v.subsystems))

  pub valid-counts : IsCounts (groups_of us) cs
  valid-counts = rw counts (counts_numbered-valid (groups_of us) i)

  pub counts-here : IsCountsOf l cs
  counts-here = record { valid = v; counts = valid-counts }

  pub index-small : k < 210
  index-small = omega (arith, ap length listed, events-few l v)

  pub step-is : (times-here : ℕ) → times-here ≡ times us cs i e → (after : List ℕ) → after ≡ counts_after (spans us) cs e
      → (target num den units : ℕ) (share : Share) → target ≡ number_of (groups_of us) after → share ≡ share_at us cs e.subsystem
      → units ≡ upper share e.rate → den ≡ lower share e.rate
      → num ≡ times-here * units → (x : Step) → x ≡ record { source = i; target = target; num = num; den = den } → x ≡ step_by us cs i e
  step-is times-here times-is after after-is target num den units share t h n d m x s = rw (s, t, m, n, d, h, times-is, after-is) refl

  -- a number of a step is small
  pub num-small : (t units : ℕ) (share : Share) → t ≤ 255 → share ≡ share_at us cs e.subsystem → units ≡ upper share e.rate → t * units ≤ 2 ^ 58
  num-small t units share h s n =
      let p : units ≤ 10 ^ 15 = rw (n, s) (fair.slow (share_at us cs e.subsystem) (shares-small us 0 cs e.subsystem)) in omega (arith, mul-le-mul h p)
