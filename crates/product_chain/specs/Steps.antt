-- The steps from one count vector to others, and their chances in a tick.
use Rattle.std.specs.Prelude.{ℕ, zero, suc, ◌+◌, ◌*◌, ◌/◌, ◌^◌, ◌<◌, ◌≤◌, ◌&&◌, List, [], ◌∷◌, ◌++◌, if◌then◌else◌, nat_lt, ◌==◌}
use Rattle.sil_model.specs.Calendar.{beats_of, ceiling}
use Rattle.sil_model.specs.LoopValue.{groups_of}
use Rattle.sil_model.specs.Counts.{number_of, counts_numbered}
use Rattle.sil_model.specs.declared.parts.Subsystem.{Subsystem}
use Rattle.common_cause.specs.declared.event.Rate.{Rate}
use Rattle.common_cause.specs.declared.event.Rate.TheVariants.{Fails, Repairs}
use Rattle.common_cause.specs.declared.event.LumpEvent.{LumpEvent}
use Rattle.common_cause.specs.declared.share.Share.{Share}
use Rattle.common_cause.specs.LumpEvents.{lump_events_of}
use Rattle.common_cause.specs.LumpedRates.{spans, times_of, counts_after}
use Rattle.common_cause.specs.Shares.{share_at}
use Rattle.product_chain.specs.declared.step.Step.{Step}

-- the number 1 in units of a weight
abbrev pub scale : ℕ
scale = 2 ^ 48

-- one step more: it joins the first with its target and its divisor
abbrev pub joined : List Step → Step → List Step
joined [] t = t ∷ []
joined (s ∷ ss) t = if s.target == t.target && s.den == t.den then record s { num = s.num + t.num } ∷ ss else s ∷ joined ss t

-- one step more, where it is known which one it joins
abbrev pub joined_at : List Step → ℕ → Step → List Step
joined_at [] i t = t ∷ []
joined_at (s ∷ ss) zero t = record s { num = s.num + t.num } ∷ ss
joined_at (s ∷ ss) (suc i) t = s ∷ joined_at ss i t

-- a rate per hour as a quotient, where each channel in repair has a share of the crews
abbrev pub upper : Share → Rate → ℕ
upper share (Fails n) = n
upper share (Repairs n) = share.num

abbrev pub lower : Share → Rate → ℕ
lower share (Fails n) = 10 ^ 18
lower share (Repairs n) = n * share.den

module _ (us : List Subsystem) (cs : List ℕ) (i : ℕ) where
  abbrev pub times : LumpEvent → ℕ
  times e = times_of (spans us) cs e

  -- the share of the channels in repair of its subsystem
  abbrev pub share : LumpEvent → Share
  share e = share_at us cs e.subsystem

  -- the step of an event from the count vector cs of the number i
  abbrev pub step_by : LumpEvent → Step
  step_by e = record { source = i; target = number_of (groups_of us) (counts_after (spans us) cs e); num = times e * upper (share e) e.rate; den = lower (share e) e.rate }

  -- the steps of some events, joined
  abbrev pub steps_over : List Step → List LumpEvent → List Step
  steps_over ss [] = ss
  steps_over ss (e ∷ es) = if nat_lt 0 (times e) then steps_over (joined ss (step_by e)) es else steps_over ss es

-- the steps of the count vector of a number
unfoldable pub steps_from : List Subsystem → ℕ → List Step
steps_from us i = steps_over us (counts_numbered (groups_of us) i) i [] (lump_events_of us)

-- those of the first n count vectors
unfoldable pub steps_below : List Subsystem → ℕ → List Step
steps_below us zero = []
steps_below us (suc n) = steps_below us n ++ steps_from us n

-- the chance of a quotient per hour in a tick, in units of 2^-48, rounded down and up
module _ (hours beats : ℕ) where
  abbrev pub down_of : ℕ → ℕ → ℕ
  down_of num den = hours * num * scale / (beats * den)

  abbrev pub up_of : ℕ → ℕ → ℕ
  up_of num den = ceiling (hours * num * scale) (beats * den)

-- a rate for which all ticks that are short enough for the loop are short enough
pub record IsSlow (us : List Subsystem) (num den : ℕ) : Type 0 where
  pub some : 0 < den
  pub small : den ≤ 10 ^ 18
  pub slow : (hours beats : ℕ) → beats_of us hours ≤ beats → hours * num ≤ beats * den
