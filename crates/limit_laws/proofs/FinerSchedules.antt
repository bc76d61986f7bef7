-- What a schedule pays where its beats are cut finer.
use Rattle.std.proofs.Common.{◌≡◌, ℕ, zero, suc, ◌+◌, ◌-◌, ◌*◌, ◌<◌, ◌≤◌, Bool, true, false, List, [], ◌∷◌, refl, sym, ap, ◌∙◌, arith}
use Rattle.std.proofs.Math.Nat.{mul-pos}
use Rattle.std.specs.Prelude.{if◌then◌else◌}
use mathlib.Core.Path.{fun_ext}
use Rattle.sil_fraction.specs.Fraction.{Fraction, ◌+ℚ◌, ◌*ℚ◌, ◌≤ℚ◌, whole, ratio}
use Rattle.sil_fraction.proofs.Laws.{add_comm, add_assoc, mul_assoc, one-mul, le_refl, le_trans, le_of_same, zero-le, mul-le-left, mul-le-right, whole-add}
use Rattle.sil_fraction.proofs.Laws.{whole-mul, ratio-le-ratio}
use Rattle.sil_fraction.proofs.Sums.{add-le-add, add-mul, add-zero, le-add_right, mul-zero}
use Rattle.sil_model.specs.State.{FullState}
use Rattle.sil_model.specs.Events.{Event, events_of, step_of}
use Rattle.sil_model.specs.Series.{Values, factorial, beat_of, mean_of}
use Rattle.sil_model.specs.Pay.{Item, Mode, pay_of, payoff_of}
use Rattle.sil_model.specs.Pay.Item.{Beat, Tests}
use Rattle.sil_model.specs.Pay.Mode.{Down, Up, Entry, AtEnd, UpAtEnd}
use Rattle.sil_model.specs.declared.parts.Subsystem.{Subsystem}
use Rattle.model_laws.specs.Hours.{IsShort, AreShort}
use Rattle.model_laws.specs.Hours.AreShort.{beat, tests}
use Rattle.model_laws.proofs.Operators.{step-constant}
use Rattle.model_laws.proofs.Beats.{mean-constant}
use Rattle.model_laws.proofs.Series.{factorial_pos}
use Rattle.model_laws.proofs.Rates.{over-mul}
use Rattle.limit_laws.specs.Near.{IsNear}
use Rattle.limit_laws.specs.Real.{Real, Approaches}
use Rattle.limit_laws.specs.Bounds.{beat_count, most_of, most_in_beat, split_error_of}
use Rattle.limit_laws.specs.Finer.{IsFiner}
use Rattle.limit_laws.specs.Finer.IsFiner.{none, same, split}
use Rattle.limit_laws.proofs.Nearness.{near_itself, near_turned, near_wider, near_chained, near_summed}
use Rattle.limit_laws.proofs.Most.{pay_small, payoff_small}
use Rattle.limit_laws.proofs.Schedules.{after_near, testing_near}
use Rattle.limit_laws.proofs.Steps.{first_short, second_short}
use Rattle.limit_laws.proofs.Balances.{power_remainder_small}
use Rattle.limit_laws.proofs.SplitBeats.{beat_and_pay, split_near}
use Rattle.limit_laws.proofs.Limits.{halves}
use Rattle.limit_laws.proofs.Figures.{le_factorial}

-- a beat of h + g hours split in two
module _ (us : List Subsystem) (m : Mode) (h g : Fraction) (some : h ≡ whole 0 → ⊥) (short : IsShort us (h +ℚ g)) (rest : List Item) (more : AreShort us rest)
    (n : ℕ) (enough : 3 ≤ n) where
  abbrev es : List Event
  es = events_of us

  pub short_first : IsShort us h
  short_first = record { leaves = first_short es h g short.leaves }

  pub short_second : IsShort us g
  short_second = record { leaves = second_short es h g short.leaves }

  -- nothing is paid
  none_during : (k : Fraction) → IsShort us k → (t : FullState) → k *ℚ mean_of (step_of es k) (suc n) (λ t. whole 0) t ≡ whole 0
  none_during k s t = ap (λ (e : Values FullState). k *ℚ e t)
      (mean-constant (step_of es k) (whole 0) (fun_ext (step-constant es k s.leaves (whole 0))) (suc n) n refl) ∙ mul-zero k

  pub split_pay : (counts : Bool) (s : FullState)
      → IsNear (most_of m (Beat (h +ℚ g) counts ∷ rest) *ℚ split_error_of (suc n)) (pay_of us (suc n) m (Beat (h +ℚ g) counts ∷ rest) s)
      (pay_of us (suc n) m (Beat h counts ∷ Beat g counts ∷ rest) s)
  unfolding pay_of most_of
  split_pay true s =
      let B : Fraction = most_of m rest +ℚ most_in_beat m (h +ℚ g) in
      split_near es h g short.leaves some B (pay_of us (suc n) m rest) (payoff_of us m)
      (λ t. le_trans _ _ _ (pay_small us m n rest more t) (le-add_right (most_of m rest) (most_in_beat m (h +ℚ g))))
      (λ t. le_trans _ _ _ (payoff_small us (h +ℚ g) short m t)
      (rw (add_comm (most_of m rest) (most_in_beat m (h +ℚ g))) (le-add_right (most_in_beat m (h +ℚ g)) (most_of m rest)))) n enough s
  split_pay false s =
      let B : Fraction = most_of m rest +ℚ whole 0 in
      let P : Values FullState = pay_of us (suc n) m rest in
      let near : IsNear (B *ℚ split_error_of (suc n)) (beat_and_pay es n (h +ℚ g) (λ t. whole 0) P s)
      (beat_and_pay es n h (λ t. whole 0) (beat_and_pay es n g (λ t. whole 0) P) s) =
      split_near es h g short.leaves some B P (λ t. whole 0) (λ t. le_trans _ _ _ (pay_small us m n rest more t) (le-add_right (most_of m rest) (whole 0)))
      (λ t. le_trans _ _ _ (le_of_same _ _ (mul-zero (h +ℚ g))) (zero-le B)) n enough s in
      let inner : beat_of (step_of es h) (suc n) (λ t. beat_of (step_of es g) (suc n) P t +ℚ g *ℚ mean_of (step_of es g) (suc n) (λ t. whole 0) t) s
      ≡ beat_of (step_of es h) (suc n) (λ t. beat_of (step_of es g) (suc n) P t +ℚ whole 0) s =
      ap (λ (y : Values FullState). beat_of (step_of es h) (suc n) y s)
      (fun_ext (λ t. ap (λ z. beat_of (step_of es g) (suc n) P t +ℚ z) (none_during g short_second t))) in
      rw (none_during (h +ℚ g) short s, inner, none_during h short_first s) at near

count-cons : (x : Item) (xs : List Item) → beat_count (x ∷ xs) ≡ beat_count (x ∷ []) + beat_count xs
unfolding beat_count
count-cons (Beat h c) xs = omega arith
count-cons (Tests ts) xs = omega arith

-- a finer schedule has no fewer beats, and the most that it pays is no less
finer_count : {xs ys : List Item} → IsFiner xs ys → beat_count xs ≤ beat_count ys
unfolding beat_count
finer_count none = omega arith
finer_count (same {x} {xs} {ys} f) = omega (arith, count-cons x xs, count-cons x ys, finer_count f)
finer_count (split some f) = omega (arith, finer_count f)

two_parts : (m : Mode) (h g : Fraction) → most_in_beat m (h +ℚ g) ≤ℚ most_in_beat m g +ℚ most_in_beat m h
two_parts Down h g = le_of_same _ _ (add_comm h g)
two_parts Up h g = le_of_same _ _ (add_comm h g)
two_parts Entry h g = le-add_right _ _
two_parts AtEnd h g = le-add_right _ _
two_parts UpAtEnd h g = le-add_right _ _

module _ (m : Mode) where
  most_tail : (x : Item) (xs : List Item) → most_of m xs ≤ℚ most_of m (x ∷ xs)
  unfolding most_of
  most_tail (Beat h c) xs = le-add_right _ _
  most_tail (Tests ts) xs = le-add_right _ _

  most_kept : (x : Item) (xs ys : List Item) → most_of m xs ≤ℚ most_of m ys → most_of m (x ∷ xs) ≤ℚ most_of m (x ∷ ys)
  unfolding most_of
  most_kept (Beat h c) xs ys k = add-le-add _ _ _ _ k (le_refl _)
  most_kept (Tests ts) xs ys k = add-le-add _ _ _ _ k (le_refl _)

  most_split : (h g : Fraction) (counts : Bool) (xs : List Item) → most_of m (Beat (h +ℚ g) counts ∷ xs) ≤ℚ most_of m (Beat h counts ∷ Beat g counts ∷ xs)
  unfolding most_of
  most_split h g true xs = rw add_assoc (add-le-add _ _ _ _ (le_refl (most_of m xs)) (two_parts m h g))
  most_split h g false xs = le-add_right _ _

  finer_most : {xs ys : List Item} → IsFiner xs ys → most_of m xs ≤ℚ most_of m ys
  finer_most none = le_refl _
  finer_most (same {x} {xs} {ys} f) = most_kept x xs ys (finer_most f)
  finer_most (split {h} {g} {counts} {xs} some f) = le_trans _ _ _ (most_split h g counts xs) (finer_most f)

module _ (us : List Subsystem) (m : Mode) (n : ℕ) (enough : 3 ≤ n) where
  -- an item before near schedules
  item_near : (x : Item) (xs ys : List Item) → AreShort us (x ∷ xs) → (d : Fraction)
      → ((s : FullState) → IsNear d (pay_of us (suc n) m xs s) (pay_of us (suc n) m ys s))
      → (s : FullState) → IsNear d (pay_of us (suc n) m (x ∷ xs) s) (pay_of us (suc n) m (x ∷ ys) s)
  unfolding pay_of
  item_near (Beat h c) xs ys (beat short more) d near s =
      rw add-zero at (near_summed d (whole 0) _ _ _ _ (after_near us h short (suc n) (pay_of us (suc n) m xs) (pay_of us (suc n) m ys) d near s)
      (near_itself (whole 0) (if c then h *ℚ mean_of (step_of (events_of us) h) (suc n) (payoff_of us m) s else whole 0)))
  item_near (Tests ts) xs ys (tests likely more) d near s = testing_near us m (pay_of us (suc n) m xs) (pay_of us (suc n) m ys) d near s ts likely s

  short_tail : (x : Item) (xs : List Item) → AreShort us (x ∷ xs) → AreShort us xs
  short_tail (Beat h c) xs (beat short more) = more
  short_tail (Tests ts) xs (tests likely more) = more

  module _ (M : Fraction) where
    abbrev allowed : ℕ → Fraction
    allowed k = whole k *ℚ (M *ℚ split_error_of (suc n))

    one_more : (k : ℕ) (x : Fraction) → x ≤ℚ M → x *ℚ split_error_of (suc n) +ℚ allowed k ≤ℚ allowed (suc k)
    one_more k x h =
        let e : suc k ≡ 1 + k = omega arith in
        rw (e, whole-add 1 k, add-mul, one-mul) (add-le-add _ _ _ _ (mul-le-right _ _ (split_error_of (suc n)) h) (le_refl (allowed k)))

    pub finer_near : {xs ys : List Item} → IsFiner xs ys → AreShort us xs → most_of m ys ≤ℚ M → (s : FullState)
        → IsNear (allowed (beat_count ys - beat_count xs)) (pay_of us (suc n) m xs s) (pay_of us (suc n) m ys s)
    unfolding beat_count
    finer_near none short within s = near_itself _ _
    finer_near (same {x} {xs} {ys} f) short within s =
        let e : beat_count (x ∷ ys) - beat_count (x ∷ xs) ≡ beat_count ys - beat_count xs = omega (arith, count-cons x xs, count-cons x ys) in
        rw e (item_near x xs ys short (allowed (beat_count ys - beat_count xs))
        (finer_near f (short_tail x xs short) (le_trans _ _ _ (most_tail m x ys) within)) s)
    finer_near (split {h} {g} {counts} {xs} {ys} some f) (beat short more) within s =
        let first : IsShort us h = record { leaves = first_short (events_of us) h g short.leaves } in
        let second : IsShort us g = record { leaves = second_short (events_of us) h g short.leaves } in
        let c : ℕ = beat_count ys - suc (suc (beat_count xs)) in
        let e : beat_count ys - suc (beat_count xs) ≡ suc c = omega (arith, finer_count f) in
        rw e (near_wider _ _ _ _
        (near_chained _ _ _ (pay_of us (suc n) m (Beat h counts ∷ Beat g counts ∷ xs) s) _
        (split_pay us m h g some short xs more n enough counts s)
        (finer_near f (beat first (beat second more)) within s))
        (one_more c (most_of m (Beat (h +ℚ g) counts ∷ xs)) (le_trans _ _ _ (most_split m h g counts xs) (le_trans _ _ _ (finer_most m f) within))))

-- the split error is small from some order on
split_error_small : (k n : ℕ) → 0 < k → 9 + 6 * k ≤ n → split_error_of n ≤ℚ ratio 1 k
split_error_small k n some h =
    rw (halves k some) at (add-le-add _ _ _ _ (power_remainder_small 3 (2 * k) n (omega arith) (omega arith) (omega arith))
    (ratio-le-ratio 3 (factorial n) 1 (2 * k) (factorial_pos n) (omega arith) (omega (arith, le_factorial n))))

-- and so is a multiple of it
allowed_small : (c most k n : ℕ) → 0 < k → 9 + 6 * (suc (c * most) * k) ≤ n → whole c *ℚ (whole most *ℚ split_error_of n) ≤ℚ ratio 1 k
allowed_small c most k n some h =
    let J : ℕ = suc (c * most) * k in
    let positive : 0 < J = mul-pos (omega arith) some in
    le_trans _ _ _ (le_of_same _ _ (sym (mul_assoc (whole c) (whole most) (split_error_of n)) ∙ ap (λ z. z *ℚ split_error_of n) (sym (whole-mul c most))))
    (le_trans _ _ _ (mul-le-left (whole (c * most)) _ _ (split_error_small J n positive h))
    (le_trans _ _ _ (le_of_same _ _ (over-mul (c * most) 1 J)) (ratio-le-ratio (c * most * 1) J 1 k positive some (enough (c * most) k))))
  where
    enough : (x k : ℕ) → x * 1 * k ≤ 1 * (suc x * k)
    enough x k = omega arith

-- the limit is the same
pub finer_limit : (us : List Subsystem) (m : Mode) (xs ys : List Item) → AreShort us xs → IsFiner xs ys → (most : ℕ) → most_of m ys ≤ℚ whole most
    → (s : FullState)
    → (r : Real) → Approaches (λ n. pay_of us n m xs s) r → Approaches (λ n. pay_of us n m ys s) r
finer_limit us m xs ys short f most within s r a = record {
  from = λ k. a.from (2 * k) + (9 + 6 * (suc ((beat_count ys - beat_count xs) * most) * (2 * k)));
  near = λ k n some h. record {
    near = λ j i also g.
        let c : ℕ = beat_count ys - beat_count xs in
        let two : 0 < 2 * k = omega arith in
        let later : 9 + 6 * (suc (c * most) * (2 * k)) ≤ n = omega arith in
        let near : IsNear (ratio 1 (2 * k)) (pay_of us n m xs s) (pay_of us n m ys s) = by_order n (2 * k) two later in
        rw (sym (add_assoc (ratio 1 (2 * k)) (ratio 1 (2 * k)) (ratio 1 j)), halves k some) at
        (near_chained _ _ _ (pay_of us n m xs s) _ (near_turned _ _ _ near) ((a.near (2 * k) n two (omega arith)).near j i also g));
  };
}
  where
    by_order : (n k : ℕ) → 0 < k → 9 + 6 * (suc ((beat_count ys - beat_count xs) * most) * k) ≤ n → IsNear (ratio 1 k) (pay_of us n m xs s) (pay_of us n m ys s)
    by_order zero k some h = absurd (omega arith)
    by_order (suc n) k some h =
        near_wider _ _ _ _ (finer_near us m n (omega arith) (whole most) f short within s)
        (allowed_small (beat_count ys - beat_count xs) most k (suc n) some h)
