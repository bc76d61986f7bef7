-- From no state is the loop entered down at a greater rate than that of all failures, and this rate is small.
use Rattle.std.proofs.Common.{◌≡◌, ℕ, zero, suc, ◌+◌, ◌-◌, ◌*◌, ◌^◌, ◌<◌, ◌≤◌, List, [], ◌∷◌, ◌++◌, length, get_or, drop, refl, sym, ap, ◌∙◌, arith, add-one}
use Rattle.std.specs.Prelude.{Bool, true, false, not, cond, if◌then◌else◌, All}
use Rattle.std.proofs.Math.Nat.{mul-le-mul}
use Rattle.std.proofs.Math.Seq.{drop-cons}
use Rattle.std.proofs.Math.ListN.{drop_of_length-le}
use Rattle.std.proofs.lemmas.List.Sums.{sum_by-cons}
use Rattle.std.proofs.lemmas.List.Elements.{All-head, All-tail}
use Rattle.sil_fraction.specs.Fraction.{Fraction, ◌+ℚ◌, ◌*ℚ◌, ◌≤ℚ◌, whole, ratio}
use Rattle.sil_fraction.specs.Sum.{total}
use Rattle.sil_fraction.proofs.Laws.{le_refl, zero-le}
use Rattle.sil_fraction.proofs.Sums.{add-zero, add-le-add, mul-one, mul-zero, total-append}
use Rattle.sil_model.specs.State.{FullState, is_same_state, is_up_of}
use Rattle.sil_model.specs.Events.{Event, events_of, events_from, channels_events, channel_events, common_events}
use Rattle.sil_model.specs.Events.{Failure, failed, move_one, move_all, rate_at, common_rate, through, flow_of}
use Rattle.sil_model.specs.Events.Failure.{Undetected, Uncovered, Detected}
use Rattle.sil_model.specs.Events.Kind.{Fails, Returns}
use Rattle.sil_model.specs.Pay.{one_if, payoff_of}
use Rattle.sil_model.specs.Pay.Mode.{Entry}
use Rattle.sil_model.specs.LoopValue.{LoopValue, IsValid, IsSubsystemInRange}
use Rattle.sil_model.specs.Budget.{alone_units_of, together_units_of, failure_rate_of}
use Rattle.sil_model.specs.declared.parts.Chan.TheVariants.{Work, Repair}
use Rattle.sil_model.specs.declared.parts.Subsystem.{Subsystem}
use Rattle.model_laws.proofs.Rates.{over-add}
use Rattle.lumped_laws.specs.StateOfCounts.{state_numbered}
use Rattle.common_cause.specs.LumpEvents.{failure_units, common_units}
use Rattle.common_cause.proofs.Units.{failure_in_units, common_in_units}
use Rattle.entry_rates.specs.Greatest.{EntryLaw}
use Rattle.entry_rates.proofs.Repairs.{up_repaired}

pub rate-cons : (u : Subsystem) (us : List Subsystem) → failure_rate_of (u ∷ us) ≡ (u.vote.n * alone_units_of u + together_units_of u) + failure_rate_of us
unfolding failure_rate_of
rate-cons u us = sum_by-cons (λ (u : Subsystem). u.vote.n * alone_units_of u + together_units_of u) u us

-- a share and its rest
shared : (x c d e : ℕ) → c ≤ 1000 → x * c * d + (x * (1000 - c) * d + 1000 * e) ≡ 1000 * (x * d + e)
shared x c d e h = let whole_share : c + (1000 - c) ≡ 1000 = omega arith in omega (arith, ap (λ y. x * y * d) whole_share)

-- terms below quotients of one number
below_three : (x y z : Fraction) (a b c n d : ℕ)
    → x ≤ℚ ratio a d → y ≤ℚ ratio b d → z ≤ℚ ratio c d → a + (b + c) ≡ n → x +ℚ (y +ℚ z) ≤ℚ ratio n d
below_three x y z a b c n d p q r e = rw (← e, ← over-add a (b + c) d, ← over-add b c d) (add-le-add _ _ _ _ p (add-le-add _ _ _ _ q r))

below_two : (x y : Fraction) (a b d : ℕ) → x ≤ℚ ratio a d → y ≤ℚ ratio b d → x +ℚ y ≤ℚ ratio (a + b) d
below_two x y a b d p q = rw (← over-add a b d) (add-le-add _ _ _ _ p q)

module _ (us : List Subsystem) (s : FullState) (up : is_up_of us s ≡ true) where
  abbrev down : FullState → Fraction
  down t = one_if (not (is_up_of us t))

  -- an event leads down at most at its rate, and a repair at none
  at_most : (e : Event) → through down s e ≤ℚ e.rate s
  at_most e = go (is_same_state (e.move s) s) (is_up_of us (e.move s))
    where
      go : (b c : Bool) → cond b (whole 0) (e.rate s *ℚ one_if (not c)) ≤ℚ e.rate s
      go true c = zero-le _
      go false true = rw mul-zero (zero-le _)
      go false false = rw mul-one (le_refl _)

  no_repair : (rate : FullState → Fraction) (i : ℕ) → through down s (record { rate = rate; move = move_one i Repair Work }) ≡ whole 0
  no_repair rate i = rw (up_repaired us i s up) (go (is_same_state (move_one i Repair Work s) s))
    where
      go : (b : Bool) → cond b (whole 0) (rate s *ℚ whole 0) ≡ whole 0
      go true = refl
      go false = mul-zero (rate s)

  module _ (u : Subsystem) (r : IsSubsystemInRange u) (a : ℕ) where
    fails : (i : ℕ) (f : Failure)
        → through down s (record { rate = rate_at u a (Fails f); move = move_one i Work (failed f) }) ≤ℚ ratio (failure_units u f) (10 ^ 18)
    fails i f = rw (← failure_in_units u f) (at_most (record { rate = rate_at u a (Fails f); move = move_one i Work (failed f) }))

    one_channel : (i : ℕ) → total (through down s) (channel_events u a i) ≤ℚ ratio (alone_units_of u) (10 ^ 18)
    one_channel i =
        let last : through down s (record { rate = rate_at u a Returns; move = move_one i Repair Work }) +ℚ whole 0 ≡ whole 0 =
        rw (no_repair (rate_at u a Returns) i) (add-zero _) in
        rw (last, add-zero)
        (below_three _ _ _ (failure_units u Undetected) (failure_units u Uncovered) (failure_units u Detected) (alone_units_of u) (10 ^ 18)
        (fails i Undetected) (fails i Uncovered) (fails i Detected)
        (shared (1000 - u.figures.beta) u.figures.coverage u.figures.du ((1000 - u.figures.beta_d) * u.figures.dd) r.figures.coverage))

    channels : (n : ℕ) → total (through down s) (channels_events u a n) ≤ℚ ratio (n * alone_units_of u) (10 ^ 18)
    channels zero = zero-le _
    channels (suc n) =
        let more : suc n * alone_units_of u ≡ n * alone_units_of u + alone_units_of u = omega arith in
        rw (more, total-append (through down s) (channels_events u a n) (channel_events u a (a + n)))
        (below_two _ _ (n * alone_units_of u) (alone_units_of u) (10 ^ 18) (channels n) (one_channel (a + n)))

    comes : (f : Failure)
        → through down s (record { rate = λ t. common_rate u f; move = move_all a u.vote.n (failed f) }) ≤ℚ ratio (common_units u f) (10 ^ 18)
    comes f = rw (← common_in_units u f) (at_most (record { rate = λ t. common_rate u f; move = move_all a u.vote.n (failed f) }))

    common : total (through down s) (common_events u a) ≤ℚ ratio (together_units_of u) (10 ^ 18)
    common =
        rw add-zero
        (below_three _ _ _ (common_units u Undetected) (common_units u Uncovered) (common_units u Detected) (together_units_of u) (10 ^ 18)
        (comes Undetected) (comes Uncovered) (comes Detected)
        (shared u.figures.beta u.figures.coverage u.figures.du (u.figures.beta_d * u.figures.dd) r.figures.coverage))

  within : (vs : List Subsystem) → All IsSubsystemInRange vs → (a : ℕ)
      → total (through down s) (events_from a vs) ≤ℚ ratio (failure_rate_of vs) (10 ^ 18)
  unfolding events_from
  within [] rs a = zero-le _
  within (u ∷ vs) rs a =
      let r : IsSubsystemInRange u = All-head IsSubsystemInRange u vs rs in
      rw (
        rate-cons u vs,
        total-append (through down s) (channels_events u a u.vote.n ++ common_events u a) (events_from (a + u.vote.n) vs),
        total-append (through down s) (channels_events u a u.vote.n) (common_events u a),
      )
      (below_two _ _ (u.vote.n * alone_units_of u + together_units_of u) (failure_rate_of vs) (10 ^ 18)
      (below_two _ _ (u.vote.n * alone_units_of u) (together_units_of u) (10 ^ 18) (channels u r a u.vote.n) (common u r a))
      (within vs (All-tail IsSubsystemInRange u vs rs) (a + u.vote.n)))

pub entered-le : (us : List Subsystem) → All IsSubsystemInRange us → (s : FullState) → payoff_of us Entry s ≤ℚ ratio (failure_rate_of us) (10 ^ 18)
unfolding payoff_of flow_of events_of
entered-le us rs s = go (is_up_of us s) refl
  where
    go : (b : Bool) → is_up_of us s ≡ b
        → (if b then total (through (λ t. one_if (not (is_up_of us t))) s) (events_from 0 us) else whole 0) ≤ℚ ratio (failure_rate_of us) (10 ^ 18)
    go true e = within us s e us rs 0
    go false e = zero-le _

pub entry_laws : (l : LoopValue) → EntryLaw l
entry_laws l = record {
  states = λ v s. entered-le l.subsystems v.subsystems s;
  numbers = λ v i. entered-le l.subsystems v.subsystems (state_numbered l.subsystems i);
}

-- the rate of all failures of a loop is small
part_small : (x y du dd : ℕ) → x ≤ 1000 → y ≤ 1000 → du ≤ 10 ^ 9 → dd ≤ 10 ^ 9 → 1000 * (x * du + y * dd) ≤ 2 * 10 ^ 15
part_small x y du dd p q d e = omega (arith, mul-le-mul p d, mul-le-mul q e)

pub subsystem_small : (u : Subsystem) → IsSubsystemInRange u → u.vote.n * alone_units_of u + together_units_of u ≤ 18 * 10 ^ 15
subsystem_small u r =
    let alone : alone_units_of u ≤ 2 * 10 ^ 15 =
    part_small (1000 - u.figures.beta) (1000 - u.figures.beta_d) u.figures.du u.figures.dd (omega arith) (omega arith) r.figures.du r.figures.dd in
    let together : together_units_of u ≤ 2 * 10 ^ 15 =
    part_small u.figures.beta u.figures.beta_d u.figures.du u.figures.dd r.figures.beta r.figures.beta_d r.figures.du r.figures.dd in
    omega (arith, mul-le-mul r.vote.few alone, together)

rates_small : (us : List Subsystem) → All IsSubsystemInRange us → failure_rate_of us ≤ length us * (18 * 10 ^ 15)
unfolding failure_rate_of
rates_small [] rs = omega arith
rates_small (u ∷ us) rs =
    omega (arith, rate-cons u us, subsystem_small u (All-head IsSubsystemInRange u us rs), rates_small us (All-tail IsSubsystemInRange u us rs))

pub failure_rate_small : (l : LoopValue) → IsValid l → failure_rate_of l.subsystems ≤ 2 ^ 60
failure_rate_small l v = omega (arith, rates_small l.subsystems v.subsystems, v.few.below)

-- the rates of the subsystems before the number i
module _ (us : List Subsystem) where
  abbrev pub IsSummed : ℕ → ℕ → Type 0
  IsSummed i sum = sum + failure_rate_of (drop i us) ≡ failure_rate_of us

  pub sum-start : IsSummed 0 0
  sum-start = omega arith

  module _ (i sum : ℕ) (p : IsSummed i sum) where
    pub sum-end : length us ≤ i → sum ≡ failure_rate_of us
    unfolding failure_rate_of
    sum-end h = let none : drop i us ≡ [] = drop_of_length-le us h in omega (arith, rw none at p)

    pub sum-next : (u : Subsystem) → i < length us → u ≡ get_or us i u → IsSummed (i + 1) (sum + (u.vote.n * alone_units_of u + together_units_of u))
    sum-next u inside is =
        let here : drop i us ≡ u ∷ drop (i + 1) us = drop-cons us i u inside ∙ rw (add-one i) (ap (λ x. x ∷ drop (suc i) us) (sym is)) in
        omega (arith, rw here at p, rate-cons u (drop (i + 1) us))
