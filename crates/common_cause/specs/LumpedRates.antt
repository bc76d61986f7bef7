-- What the events between count vectors keep of the events of a loop.
use Rattle.std.specs.Prelude.{◌≡◌, ℕ, zero, suc, ◌+◌, ◌^◌, Bool, false, List, [], ◌∷◌, filter, nat_lt, if◌then◌else◌}
use Rattle.sil_fraction.specs.Fraction.{Fraction, ◌*ℚ◌, whole, ratio}
use Rattle.sil_fraction.specs.Sum.{total}
use Rattle.sil_model.specs.State.{FullState}
use Rattle.sil_model.specs.Events.{Event, events_of, share_of, in_repair_of}
use Rattle.sil_model.specs.Counts.{count_in, moved_in}
use Rattle.sil_model.specs.declared.parts.Chan.TheVariants.{Work}
use Rattle.sil_model.specs.declared.parts.Subsystem.{Subsystem}
use Rattle.lumped_laws.specs.CountsOfState.{counts_of_state}
use Rattle.channel_counts.specs.GroupSums.{sum_in, moved_together}
use Rattle.common_cause.specs.declared.event.Rate.{Rate}
use Rattle.common_cause.specs.declared.event.Rate.TheVariants.{Fails, Repairs}
use Rattle.common_cause.specs.declared.event.LumpEvent.{LumpEvent}
use Rattle.common_cause.specs.LumpEvents.{span_of}

-- how many groups the subsystem of a number has
abbrev pub spans : List Subsystem → ℕ → ℕ
spans [] i = 0
spans (u ∷ us) zero = span_of u
spans (u ∷ us) (suc i) = spans us i

-- the share of the repair crews that each channel in repair of the subsystem of a number has; the channels begin with the number a
abbrev pub shares_from : ℕ → List Subsystem → FullState → ℕ → Fraction
shares_from a [] s i = whole 1
shares_from a (u ∷ us) s zero = share_of u (in_repair_of a u.vote.n s)
shares_from a (u ∷ us) s (suc i) = shares_from (a + u.vote.n) us s i

-- where a subsystem has so many groups, by its number
module _ (span : ℕ → ℕ) (cs : List ℕ) where
  -- how many times the rate of an event counts: for each channel of its group that stands there, or once where a channel
  -- of its subsystem works
  abbrev pub times_of : LumpEvent → ℕ
  times_of e = if e.whole then (if nat_lt 0 (sum_in cs e.group (span e.subsystem) Work) then 1 else 0) else count_in cs e.group e.from

  -- the counts after an event: one channel has moved, or all channels of the subsystem that worked
  abbrev pub counts_after : LumpEvent → List ℕ
  counts_after e = if e.whole then moved_together e.group (span e.subsystem) e.to cs else moved_in cs e.group e.from e.to 1

-- a rate as a fraction, where each channel in repair has a share of the crews
abbrev pub value_of : Fraction → Rate → Fraction
value_of share (Fails n) = ratio n (10 ^ 18)
value_of share (Repairs n) = share *ℚ ratio 1 n

-- the rate of an event at a full state
abbrev pub rate_at : List Subsystem → FullState → LumpEvent → Fraction
rate_at us s e = whole (times_of (spans us) (counts_of_state us s) e) *ℚ value_of (shares_from 0 us s e.subsystem) e.rate

-- from a full state to the count vectors that pass a test, which its own does not, the events between count vectors have
-- the same rates together as those of the loop
abbrev pub HasLumpedRates : List Subsystem → List LumpEvent → Type 0
HasLumpedRates us es = (s : FullState) (p : List ℕ → Bool) → p (counts_of_state us s) ≡ false
    → total (rate_at us s) (filter (λ (e : LumpEvent). p (counts_after (spans us) (counts_of_state us s) e)) es)
    ≡ total (λ (e : Event). e.rate s) (filter (λ (e : Event). p (counts_of_state us (e.move s))) (events_of us))
