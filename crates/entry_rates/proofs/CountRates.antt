-- The rates of count vectors against what is entered from their full states.
use Rattle.std.proofs.Common.{◌≡◌, ℕ, ◌+◌, ◌^◌, ◌<◌, ◌≤◌, inl, inr, List, [], ◌∷◌, ◌++◌, length, get_or, drop, refl, sym, ap, ◌∙◌, arith, add-one}
use Rattle.std.specs.Prelude.{Bool, true, false, if◌then◌else◌}
use Rattle.std.proofs.Math.Seq.{drop-cons, get_or-append_seam}
use Rattle.std.proofs.Math.ListN.{drop_of_length-le}
use Rattle.std.proofs.lemmas.List.{get_or_past, get_or_append_left}
use Rattle.std.proofs.lemmas.Bool.{cases_lt}
use Rattle.sil_fraction.specs.Fraction.{◌≤ℚ◌, ratio}
use Rattle.sil_fraction.proofs.Laws.{zero-mul, le_from_ratio-le}
use Rattle.sil_model.specs.State.{FullState, is_up_of}
use Rattle.sil_model.specs.LoopValue.{LoopValue, IsValid, groups_of}
use Rattle.sil_model.specs.Counts.{IsCounts, counts_numbered}
use Rattle.sil_model.specs.Pay.{payoff_of}
use Rattle.sil_model.specs.Pay.Mode.{Entry}
use Rattle.sil_model.specs.Budget.{failure_rate_of}
use Rattle.sil_model.specs.declared.parts.Chan.TheVariants.{Work}
use Rattle.sil_model.specs.declared.parts.Subsystem.{Subsystem}
use Rattle.count_laws.proofs.Numbering.{counts_numbered-valid}
use Rattle.lumped_laws.specs.CountsOfState.{counts_of_state}
use Rattle.lumped_laws.specs.StateOfCounts.{state_of_counts, state_numbered}
use Rattle.lumped_laws.specs.PayList.{payoff_list}
use Rattle.lumped_laws.proofs.States.{counts-back, state-full}
use Rattle.common_cause.specs.declared.event.Rate.TheVariants.{Fails}
use Rattle.common_cause.specs.declared.event.LumpEvent.{LumpEvent}
use Rattle.common_cause.specs.LumpEvents.{lump_events_of}
use Rattle.common_cause.specs.InLoop.{IsCountsOf, IsInLoop}
use Rattle.entry_rates.specs.Entered.{is_up_by, rate_down, rates_down, entered_from}
use Rattle.entry_rates.proofs.Turn.{answers_up}
use Rattle.entry_rates.proofs.Known.{events-known}
use Rattle.entry_rates.proofs.Entries.{entered-up}
use Rattle.entry_rates.proofs.Greatest.{entered-le, failure_rate_small}

module _ (us : List Subsystem) (cs : List ℕ) (v : IsCounts (groups_of us) cs) where
  abbrev state : FullState
  state = state_of_counts (groups_of us) cs

  up-entered : is_up_by us cs ≡ true → payoff_of us Entry state ≡ ratio (rates_down us cs (lump_events_of us)) (10 ^ 18)
  up-entered up = rw (counts-back us cs v) at (entered-up us state (state-full us cs v) up)

  pub entered-is : ratio (entered_from us cs) (10 ^ 18) ≡ payoff_of us Entry state
  unfolding entered_from payoff_of
  entered-is = go (is_up_by us cs) refl
    where
      go : (b : Bool) → is_up_by us cs ≡ b → ratio (if b then rates_down us cs (lump_events_of us) else 0) (10 ^ 18) ≡ payoff_of us Entry state
      go true up = sym (up-entered up)
      go false down = zero-mul _ ∙ sym (rw down refl)

abbrev pub no_event : LumpEvent
no_event = record { subsystem = 0; group = 0; whole = false; from = Work; to = Work; rate = Fails 0 }

module _ {l : LoopValue} {cs : List ℕ} (at : IsCountsOf l cs) where
  abbrev us : List Subsystem
  us = l.subsystems

  abbrev all_rates : ℕ
  all_rates = rates_down us cs (lump_events_of us)

  pub entered-small : entered_from us cs ≤ failure_rate_of us
  entered-small =
      let below : ratio (entered_from us cs) (10 ^ 18) ≤ℚ ratio (failure_rate_of us) (10 ^ 18) =
      rw (entered-is us cs at.counts) (entered-le us at.valid.subsystems (state us cs at.counts)) in
      omega (arith, le_from_ratio-le (entered_from us cs) (10 ^ 18) (failure_rate_of us) (10 ^ 18) (omega arith) (omega arith) below)

  -- where the loop is down
  pub entered-none : is_up_by us cs ≡ false → 0 ≡ entered_from us cs
  unfolding entered_from
  entered-none down = rw down refl

  -- and where it is up
  module _ (up : is_up_by us cs ≡ true) where
    pub entered-all : all_rates ≡ entered_from us cs
    unfolding entered_from
    entered-all = rw up refl

    all-small : all_rates ≤ 2 ^ 60
    all-small = omega (arith, entered-all, entered-small, failure_rate_small l at.valid)

    -- one event after another
    module _ {es : List LumpEvent} (listed : es ≡ lump_events_of us) where
      abbrev pub IsLeft : ℕ → ℕ → Type 0
      IsLeft sum k = sum + rates_down us cs (drop k es) ≡ all_rates

      pub none-yet : IsLeft 0 0
      none-yet = rw listed (omega arith)

      module _ (sum k : ℕ) (left : IsLeft sum k) where
        pub sum-small : sum ≤ 2 ^ 60
        sum-small = omega (arith, left, all-small)

        pub all-added : length es ≤ k → sum ≡ all_rates
        all-added h = let none : drop k es ≡ [] = drop_of_length-le es h in omega (arith, rw none at left)

        module _ (inside : k < length es) where
          abbrev e : LumpEvent
          e = get_or es k no_event

          here : drop k es ≡ e ∷ drop (k + 1) es
          here = drop-cons es k no_event inside ∙ ap (λ j. e ∷ drop j es) (sym (add-one k))

          turn : sum + (rate_down us cs e + rates_down us cs (drop (k + 1) es)) ≡ all_rates
          turn = rw here at left

          pub rate-small : sum + rate_down us cs e ≤ 2 ^ 60
          rate-small = omega (arith, turn, all-small)

          pub one-more : IsLeft (sum + rate_down us cs e) (k + 1)
          one-more = omega (arith, turn)

          pub stands : IsInLoop us e
          stands = (rw (← listed) at (events-known us) k no_event inside).in_loop

-- the count vector of a number
pub numbered_at : (l : LoopValue) → IsValid l → (i : ℕ) → IsCountsOf l (counts_numbered (groups_of l.subsystems) i)
numbered_at l v i = record { valid = v; counts = counts_numbered-valid (groups_of l.subsystems) i }

-- the rates of all count vectors
module _ (l : LoopValue) (v : IsValid l) (rates : List ℕ) (n : ℕ)
    (each : (k : ℕ) → k < n → get_or rates k 0 ≡ entered_from l.subsystems (counts_numbered (groups_of l.subsystems) k)) where
  pub list-entered : (i : ℕ) → i < n → ratio (get_or rates i 0) (10 ^ 18) ≡ payoff_list l.subsystems Entry i
  unfolding state_numbered
  list-entered i h = rw (each i h) (entered-is l.subsystems (counts_numbered (groups_of l.subsystems) i) (counts_numbered-valid (groups_of l.subsystems) i))

  pub list-small : length rates ≤ n → (i : ℕ) → get_or rates i 0 ≤ failure_rate_of l.subsystems
  list-small many i = elim (cases_lt i n) [
    | inl h ↦ rw (each i h) (entered-small (numbered_at l v i))
    | inr h ↦ let none : get_or rates i 0 ≡ 0 = get_or_past rates i 0 (omega arith) in omega (arith, none)
  ]

-- one count vector more, of which it is known whether it is up
abbrev pub AreUpBelow : List Subsystem → ℕ → List Bool → Type 0
AreUpBelow us i up = (k : ℕ) (d : Bool) → k < i → get_or up k d ≡ is_up_of us (state_numbered us k)

pub up-next : (us : List Subsystem) (i : ℕ) (up after : List Bool) → length up ≡ i → AreUpBelow us i up
    → (cs : List ℕ) → cs ≡ counts_numbered (groups_of us) i
    → (b : Bool) → ((s : FullState) → counts_of_state us s ≡ cs → b ≡ is_up_of us s) → after ≡ up ++ b ∷ [] → AreUpBelow us (i + 1) after
unfolding state_numbered
up-next us i up after long known cs is b says all k d h =
    let valid : IsCounts (groups_of us) cs = rw is (counts_numbered-valid (groups_of us) i) in
    let here : b ≡ is_up_by us (counts_numbered (groups_of us) i) = rw is at (answers_up us cs valid b says) in
    elim (cases_lt k i) [
      | inl below ↦ rw (all, get_or_append_left up (b ∷ []) d k (omega arith)) (known k d below)
      | inr above ↦
          let e : k ≡ i = omega arith in
          let last : get_or (up ++ b ∷ []) i d ≡ b = rw (← long) (get_or-append_seam up b [] d) in
          rw (all, e) (last ∙ here)
    ]
