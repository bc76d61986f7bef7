-- What an event does to a count vector of a valid loop, and whether it takes the loop down.
use Rattle.std.proofs.Common.{◌≡◌, ℕ, ◌*◌, ◌<◌, List, refl, arith}
use Rattle.std.specs.Prelude.{Bool, true, false, if◌then◌else◌}
use Rattle.sil_model.specs.State.{FullState, is_up_of}
use Rattle.sil_model.specs.LoopValue.{LoopValue, groups_of}
use Rattle.sil_model.specs.Counts.{IsCounts}
use Rattle.sil_model.specs.declared.parts.Subsystem.{Subsystem}
use Rattle.lumped_laws.specs.CountsOfState.{counts_of_state}
use Rattle.lumped_laws.specs.StateOfCounts.{state_of_counts}
use Rattle.lumped_laws.proofs.States.{counts-back}
use Rattle.common_cause.specs.declared.event.LumpEvent.{LumpEvent}
use Rattle.common_cause.specs.LumpedRates.{spans, times_of, counts_after}
use Rattle.common_cause.specs.InLoop.{IsCountsOf, IsInLoop}
use Rattle.common_cause.proofs.InLoop.{after-valid}
use Rattle.entry_rates.specs.Entered.{is_up_by, rate_down, failure_units_of}

-- what `is_up` answers at a count vector
pub answers_up : (us : List Subsystem) (cs : List ℕ) → IsCounts (groups_of us) cs → (b : Bool)
    → ((s : FullState) → counts_of_state us s ≡ cs → b ≡ is_up_of us s) → b ≡ is_up_by us cs
answers_up us cs v b says = says (state_of_counts (groups_of us) cs) (counts-back us cs v)

module _ {l : LoopValue} {cs : List ℕ} {e : LumpEvent} (at : IsCountsOf l cs) (in_loop : IsInLoop l.subsystems e) where
  abbrev us : List Subsystem
  us = l.subsystems

  abbrev after_event : List ℕ
  after_event = counts_after (spans us) cs e

  -- an event that does not happen there
  pub never : {times : ℕ} → times ≡ times_of (spans us) cs e → times ≡ 0 → 0 ≡ rate_down us cs e
  never is none = go (is_up_by us after_event)
    where
      go : (b : Bool) → 0 ≡ (if b then 0 else times_of (spans us) cs e * failure_units_of e.rate)
      go true = refl
      go false = rw (← is, none) (omega arith)

  -- an event that happens there
  module _ {times : ℕ} {after : List ℕ} (is : times ≡ times_of (spans us) cs e) (happens : 0 < times) (moved : after ≡ after_event) where
    pub after-counts : IsCounts (groups_of us) after
    after-counts = rw moved (after-valid us cs e in_loop at.counts (omega (arith, is)))

    module _ {b : Bool} (says : (s : FullState) → counts_of_state us s ≡ after → b ≡ is_up_of us s) where
      up-after : b ≡ is_up_by us after_event
      up-after = rw moved at (answers_up us after after-counts b says)

      pub stays-up : b ≡ true → 0 ≡ rate_down us cs e
      stays-up h = rw (← up-after, h) refl

      pub goes-down : b ≡ false → (units : ℕ) → units ≡ failure_units_of e.rate → times * units ≡ rate_down us cs e
      goes-down h units u = rw (← up-after, h, is, u) refl
