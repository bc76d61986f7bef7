-- The uniformised rate law: the rates of all events together are within the beat rate.
use Rattle.std.proofs.Common.{◌≡◌, ℕ, zero, suc, ◌+◌, ◌-◌, ◌*◌, ◌^◌, ◌<◌, ◌≤◌, true, false, List, [], ◌∷◌, ◌++◌, sym, ap, ◌∙◌, arith, add-one, max}
use Rattle.std.specs.Prelude.{All, if◌then◌else◌}
use Rattle.std.proofs.Math.Nat.{lt-div-mul-add, mul-pos}
use Rattle.std.proofs.lemmas.List.Sums.{sum_by-cons}
use Rattle.std.proofs.lemmas.List.Elements.{All-head, All-tail}
use Rattle.sil_fraction.specs.Fraction.{Fraction, ◌+ℚ◌, ◌*ℚ◌, ◌≤ℚ◌, whole, ratio, inverse}
use Rattle.sil_fraction.specs.Sum.{total}
use Rattle.sil_fraction.proofs.Laws.{le_refl, le_trans, add-le-add_right, mul-le-right, mul-le-left, add_comm, add_assoc, mul_comm, mul_assoc, mul-add, zero-le, one-mul, whole-add, whole-mul, sub-add, ratio-le-ratio, ratio-mul, whole-ratio}
use Rattle.sil_fraction.proofs.Sums.{add-le-add, add-zero, add-mul, mul-one, le-add_right, total-append, total-le}
use Rattle.sil_model.specs.State.{FullState, is_same_state}
use Rattle.sil_model.specs.Events.{Event, events_of, events_from, channels_events, channel_events, common_events, per_hour, thousandths, rest_of, share_of, in_repair_of, failure_rate, common_rate, flow_of, leaving_rate}
use Rattle.sil_model.specs.Calendar.{beat_rate_of, beats_of, ceiling}
use Rattle.sil_model.specs.LoopValue.{IsSubsystemInRange}
use Rattle.sil_model.specs.declared.parts.Subsystem.{Subsystem}
use Rattle.model_laws.specs.Hours.{IsShort}
use Rattle.model_laws.proofs.Shares.{share-at_most_one}

-- the rates that leave a state are among all rates
leaving_le : (es : List Event) (s : FullState) → leaving_rate es s ≤ℚ total (λ (e : Event). e.rate s) es
unfolding flow_of
leaving_le es s = total-le _ _ es (λ e. elim (is_same_state (e.move s) s) as (λ b. (if b then whole 0 else e.rate s *ℚ whole 1) ≤ℚ e.rate s) [ true ↦ zero-le _ | false ↦ rw mul-one (le_refl _) ])

thousandths_le : (n : ℕ) → n ≤ 1000 → thousandths n ≤ℚ whole 1
thousandths_le n h = rw (whole-ratio 1) (ratio-le-ratio n 1000 1 1 (omega arith) (omega arith) (omega arith))

both : (n : ℕ) → n ≤ 1000 → rest_of (thousandths n) +ℚ thousandths n ≡ whole 1
both n h = sub-add (whole 1) (thousandths n) (thousandths_le n h)

rest_le : (n : ℕ) (x : Fraction) → n ≤ 1000 → rest_of (thousandths n) *ℚ x ≤ℚ x
rest_le n x h =
    let k : rest_of (thousandths n) ≤ℚ rest_of (thousandths n) +ℚ thousandths n = le-add_right _ _ in
    rw one-mul at (mul-le-right _ _ x (rw (both n h) at k))

part_le : (x y : Fraction) → x ≤ℚ whole 1 → x *ℚ y ≤ℚ y
part_le x y h = rw one-mul at (mul-le-right x (whole 1) y h)

-- quotients of one number
pub over-add : (a b d : ℕ) → ratio a d +ℚ ratio b d ≡ ratio (a + b) d
over-add a b d = sym (add-mul (whole a) (whole b) (inverse (whole d))) ∙ ap (λ x. x *ℚ inverse (whole d)) (sym (whole-add a b))

pub over-mul : (n a d : ℕ) → whole n *ℚ ratio a d ≡ ratio (n * a) d
over-mul n a d = sym (mul_assoc (whole n) (whole a) (inverse (whole d))) ∙ ap (λ x. x *ℚ inverse (whole d)) (sym (whole-mul n a))

module _ (u : Subsystem) (r : IsSubsystemInRange u) (s : FullState) where
  abbrev b : Fraction
  b = thousandths u.figures.beta

  abbrev bd : Fraction
  bd = thousandths u.figures.beta_d

  abbrev c : Fraction
  c = thousandths u.figures.coverage

  abbrev D : Fraction
  D = per_hour u.figures.du

  abbrev Dd : Fraction
  Dd = per_hour u.figures.dd

  abbrev R : Fraction
  R = ratio 1 u.figures.repair

  abbrev X : Fraction
  X = rest_of b *ℚ D +ℚ (rest_of bd *ℚ Dd +ℚ R)

  -- a share and the rest of it
  split : (x : Fraction) → x *ℚ c *ℚ D +ℚ x *ℚ rest_of c *ℚ D ≡ x *ℚ D
  split x = sym (add-mul (x *ℚ c) (x *ℚ rest_of c) D) ∙ ap (λ y. y *ℚ D) (sym (mul-add x c (rest_of c)) ∙ ap (λ y. x *ℚ y) (add_comm c (rest_of c) ∙ both u.figures.coverage r.figures.coverage) ∙ mul_comm x (whole 1) ∙ one-mul x)

  -- the rates of one channel
  one_channel : (a i : ℕ) → total (λ (e : Event). e.rate s) (channel_events u a i) ≤ℚ X
  unfolding failure_rate
  one_channel a i =
      let y : Fraction = share_of u (in_repair_of a u.vote.n s) *ℚ R in
      let small : y ≤ℚ R = part_le (share_of u (in_repair_of a u.vote.n s)) R (share-at_most_one u (in_repair_of a u.vote.n s)) in
      let e : rest_of b *ℚ c *ℚ D +ℚ (rest_of b *ℚ rest_of c *ℚ D +ℚ (rest_of bd *ℚ Dd +ℚ (y +ℚ whole 0))) ≡ rest_of b *ℚ D +ℚ (rest_of bd *ℚ Dd +ℚ y) =
      rw (add-zero y) (sym (add_assoc _ _ _) ∙ ap (λ z. z +ℚ (rest_of bd *ℚ Dd +ℚ y)) (split (rest_of b))) in
      rw e (add-le-add _ _ _ _ (le_refl _) (add-le-add _ _ _ _ (le_refl _) small))

  channels : (a n : ℕ) → total (λ (e : Event). e.rate s) (channels_events u a n) ≤ℚ whole n *ℚ X
  channels a zero = zero-le _
  channels a (suc n) = rw (← add-one n, whole-add, add-mul, one-mul X, total-append (λ (e : Event). e.rate s) (channels_events u a n) (channel_events u a (a + n))) (add-le-add _ _ _ _ (channels a n) (one_channel a (a + n)))

  common : (a : ℕ) → total (λ (e : Event). e.rate s) (common_events u a) ≡ b *ℚ D +ℚ bd *ℚ Dd
  unfolding common_rate
  common a = rw add-zero (sym (add_assoc _ _ _) ∙ ap (λ y. y +ℚ bd *ℚ Dd) (split b))

  -- one channel and the common causes
  first : X +ℚ (b *ℚ D +ℚ bd *ℚ Dd) ≡ D +ℚ (Dd +ℚ R)
  first =
      let p : rest_of b *ℚ D +ℚ b *ℚ D ≡ D = sym (add-mul (rest_of b) b D) ∙ ap (λ y. y *ℚ D) (both u.figures.beta r.figures.beta) ∙ one-mul D in
      let q : rest_of bd *ℚ Dd +ℚ bd *ℚ Dd ≡ Dd = sym (add-mul (rest_of bd) bd Dd) ∙ ap (λ y. y *ℚ Dd) (both u.figures.beta_d r.figures.beta_d) ∙ one-mul Dd in
      shuffle (rest_of b *ℚ D) (rest_of bd *ℚ Dd) R (b *ℚ D) (bd *ℚ Dd) ∙ cc (p, q)
    where
      shuffle : (x y z v w : Fraction) → (x +ℚ (y +ℚ z)) +ℚ (v +ℚ w) ≡ (x +ℚ v) +ℚ ((y +ℚ w) +ℚ z)
      shuffle x y z v w = grind (arith, add_assoc, add_comm)

  X_le : X ≤ℚ D +ℚ (Dd +ℚ R)
  X_le = add-le-add _ _ _ _ (rest_le u.figures.beta D r.figures.beta) (add-le-add_right _ _ R (rest_le u.figures.beta_d Dd r.figures.beta_d))

  all_of : (n : ℕ) → 0 < n → whole n *ℚ X +ℚ (b *ℚ D +ℚ bd *ℚ Dd) ≤ℚ whole n *ℚ (D +ℚ (Dd +ℚ R))
  all_of zero h = absurd (omega arith)
  all_of (suc n) h = rw (← add-one n, whole-add, add-mul, add-mul, one-mul X, one-mul (D +ℚ (Dd +ℚ R)), add_assoc, first) (add-le-add_right _ _ (D +ℚ (Dd +ℚ R)) (mul-le-left (whole n) X _ X_le))

  repairs : 0 < u.figures.repair
  repairs = omega (arith, r.figures.repair.above)

  R_le : R ≤ℚ ratio (ceiling (10 ^ 12) u.figures.repair) (10 ^ 12)
  R_le = ratio-le-ratio 1 u.figures.repair _ (10 ^ 12) repairs (omega arith) (omega (arith, lt-div-mul-add {a = 10 ^ 12 + (u.figures.repair - 1)} {b = u.figures.repair} repairs, repairs))

  abbrev units : ℕ
  units = u.figures.du + u.figures.dd + ceiling (10 ^ 12) u.figures.repair

  within : D +ℚ (Dd +ℚ R) ≤ℚ ratio units (10 ^ 12)
  within = rw (← over-add (u.figures.du + u.figures.dd) (ceiling (10 ^ 12) u.figures.repair) (10 ^ 12), ← over-add u.figures.du u.figures.dd (10 ^ 12), add_assoc)
      (add-le-add _ _ _ _ (le_refl D) (add-le-add _ _ _ _ (le_refl Dd) R_le))

  some : 0 < u.vote.n
  some = omega (arith, r.vote.some, r.vote.suffice)

  of_subsystem : (a : ℕ) → total (λ (e : Event). e.rate s) (channels_events u a u.vote.n ++ common_events u a) ≤ℚ ratio (u.vote.n * units) (10 ^ 12)
  of_subsystem a = rw (total-append (λ (e : Event). e.rate s) (channels_events u a u.vote.n) (common_events u a), common a, ← over-mul u.vote.n units (10 ^ 12))
      (le_trans _ _ _ (add-le-add_right _ _ _ (channels a u.vote.n)) (le_trans _ _ _ (all_of u.vote.n some) (mul-le-left (whole u.vote.n) _ _ within)))

rate-cons : (u : Subsystem) (us : List Subsystem) → beat_rate_of (u ∷ us) ≡ u.vote.n * (u.figures.du + u.figures.dd + ceiling (10 ^ 12) u.figures.repair) + beat_rate_of us
unfolding beat_rate_of
rate-cons u us = sum_by-cons (λ (u : Subsystem). u.vote.n * (u.figures.du + u.figures.dd + ceiling (10 ^ 12) u.figures.repair)) u us

rates_within : (us : List Subsystem) → All IsSubsystemInRange us → (a : ℕ) (s : FullState) → total (λ (e : Event). e.rate s) (events_from a us) ≤ℚ ratio (beat_rate_of us) (10 ^ 12)
unfolding events_from
rates_within [] rs a s = zero-le _
rates_within (u ∷ us) rs a s =
    let r : IsSubsystemInRange u = All-head IsSubsystemInRange u us rs in
    rw (rate-cons u us, ← over-add (u.vote.n * units u r s) (beat_rate_of us) (10 ^ 12), total-append (λ (e : Event). e.rate s) (channels_events u a u.vote.n ++ common_events u a) (events_from (a + u.vote.n) us))
    (add-le-add _ _ _ _ (of_subsystem u r s a) (rates_within us (All-tail IsSubsystemInRange u us rs) (a + u.vote.n) s))

pub rounded_up : (n d : ℕ) → 0 < d → n ≤ ceiling n d * d
rounded_up n d h = omega (arith, lt-div-mul-add {a = n + (d - 1)} {b = d} h)

-- as many beats as the definition asks, or more
pub enough_beats : (us : List Subsystem) (t : ℕ) → t * beat_rate_of us ≤ beats_of us t * 10 ^ 12
unfolding beats_of
enough_beats us t = at_most _ _ (rounded_up (t * beat_rate_of us) (10 ^ 12) (omega arith))
  where
    at_most : (x y : ℕ) → x ≤ y * 10 ^ 12 → x ≤ max 1 y * 10 ^ 12
    at_most x y h = omega arith

pub some_beats : (us : List Subsystem) (t : ℕ) → 0 < beats_of us t
unfolding beats_of
some_beats us t = omega arith

-- a step of a phase with enough beats is short
pub short : (us : List Subsystem) → All IsSubsystemInRange us → (t n : ℕ) → beats_of us t ≤ n → IsShort us (ratio t n)
unfolding events_of
short us rs t n enough = record {
  leaves = λ s.
      let some : 0 < n = omega (arith, some_beats us t) in
      let rate : leaving_rate (events_of us) s ≤ℚ ratio (beat_rate_of us) (10 ^ 12) = le_trans _ _ _ (leaving_le (events_of us) s) (rates_within us rs 0 s) in
      let one : ratio t n *ℚ ratio (beat_rate_of us) (10 ^ 12) ≤ℚ whole 1 =
      rw (ratio-mul t n (beat_rate_of us) (10 ^ 12) some (omega arith), whole-ratio 1)
      (ratio-le-ratio _ _ _ _ (mul-pos some (omega arith)) (omega arith) (omega (arith, enough_beats us t, enough))) in
      le_trans _ _ _ (mul-le-left (ratio t n) _ _ rate) one;
}
