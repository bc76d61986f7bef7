-- The figures of a loop at two orders, and the exact figures.
use Rattle.std.proofs.Common.{◌≡◌, ℕ, zero, suc, ◌+◌, ◌*◌, ◌^◌, ◌<◌, ◌≤◌, List, [], length, refl, sym, arith}
use Rattle.std.specs.Prelude.{slice_index_or}
use Rattle.std.proofs.Math.Nat.{mul-le-mul_right}
use Rattle.sil_fraction.specs.Fraction.{Fraction, ◌*ℚ◌, ◌≤ℚ◌, whole, ratio, inverse}
use Rattle.sil_fraction.proofs.Laws.{mul_comm, mul_assoc, zero-mul, zero-le, le_trans, mul-le-left, mul-le-right, le_of_same, mul-inverse, ratio-le-ratio}
use Rattle.sil_fraction.proofs.Laws.{whole-le, whole-mul}
use Rattle.sil_fraction.proofs.Sums.{mul-one, whole-positive}
use Rattle.sil_model.specs.State.{start_of}
use Rattle.sil_model.specs.Series.{factorial}
use Rattle.sil_model.specs.Calendar.{phases_of, test_hours_of}
use Rattle.sil_model.specs.Sizes.{all_beats_of}
use Rattle.sil_model.specs.Pay.{Item, Mode, pay_of, schedule_of, schedule_of_phase, schedule_until}
use Rattle.sil_model.specs.Pay.Mode.{Down, Entry, AtEnd}
use Rattle.sil_model.specs.LoopValue.{LoopValue, IsValid}
use Rattle.sil_model.specs.Figures.{pfd_of, pfh_of, phase_mean_of, phase_end_of, no_phase, Contains18}
use Rattle.model_laws.specs.Hours.{AreShort}
use Rattle.model_laws.proofs.Series.{factorial_pos}
use Rattle.model_laws.proofs.Rates.{over-mul}
use Rattle.limit_laws.specs.Near.{IsNear}
use Rattle.limit_laws.specs.Real.{Real, IsNearReal, Approaches, real_of}
use Rattle.limit_laws.specs.Bounds.{beat_count, pay_error, chance_error, entry_error}
use Rattle.limit_laws.specs.Exact.{Figure, figure_of, error_of, IsExact, ContainsReal18, ContainsExact18}
use Rattle.limit_laws.specs.Exact.Figure.{Pfd, Pfh, PhaseMean, PhaseEnd}
use Rattle.limit_laws.proofs.Tails.{factorial-suc}
use Rattle.limit_laws.proofs.Quotients.{undone, quotient-mul, grown, le_from_multiplied}
use Rattle.limit_laws.proofs.Nearness.{near_scaled, near_wider}
use Rattle.limit_laws.proofs.Schedules.{pay_near}
use Rattle.schedule_laws.proofs.ShortSchedules.{short_mission, short_phase, short_until}
use Rattle.limit_laws.proofs.Missions.{count-schedule, hours-schedule, entries-schedule, count-schedule_of_phase, hours-schedule_of_phase}
use Rattle.limit_laws.proofs.Missions.{count-schedule_until, end-items}
use Rattle.limit_laws.proofs.Limits.{bounds_kept, fraction_bounds, limit, approaches_limit, near_limit}

-- a number is at most its factorial
pub le_factorial : (n : ℕ) → n ≤ factorial n
le_factorial zero = omega arith
le_factorial (suc n) =
    let F : 0 < factorial n = factorial_pos n in
    rw (factorial-suc n) (omega (arith, mul-le-mul_right (suc n) F))

-- c times 2/n! is at most 1/k from 2ck on
error_small : (c k n : ℕ) → 0 < k → c * 2 * k ≤ n → whole c *ℚ ratio 2 (factorial n) ≤ℚ ratio 1 k
error_small c k n some h = rw (over-mul c 2 (factorial n)) (ratio-le-ratio (c * 2) (factorial n) 1 k (factorial_pos n) some (omega (arith, le_factorial n, h)))

-- a whole number times its inverse, or 0
share_small : (n : ℕ) → whole n *ℚ inverse (whole n) ≤ℚ whole 1
share_small zero = le_trans _ _ _ (le_of_same _ _ (zero-mul (inverse (whole 0)))) (zero-le _)
share_small (suc n) = le_of_same _ _ (mul-inverse (whole (suc n)) (whole-positive (suc n) (omega arith)))

-- of b beats that last t hours, or less, per hour
error_per_hour : (b t : ℕ) (e : Fraction) → (whole b *ℚ whole t *ℚ e) *ℚ inverse (whole t) ≤ℚ whole b *ℚ e
error_per_hour b t e = le_trans _ _ _ (le_of_same _ _ (turned (whole b) (whole t) e (inverse (whole t))))
    (le_trans _ _ _ (mul-le-left (whole b *ℚ e) _ _ (share_small t)) (le_of_same _ _ (mul-one _)))
  where
    turned : (x y z w : Fraction) → (x *ℚ y *ℚ z) *ℚ w ≡ (x *ℚ z) *ℚ (y *ℚ w)
    turned x y z w = grind (arith, mul_assoc, mul_comm)

module _ (l : LoopValue) (v : IsValid l) where
  -- what a schedule pays, per hour
  paid : (m : Mode) (items : List Item) → AreShort l.subsystems items → (c : Fraction) (n k : ℕ) → 0 < n → n ≤ k → IsNear (pay_error n m items *ℚ c)
      (pay_of l.subsystems n m items (start_of l.subsystems) *ℚ c) (pay_of l.subsystems k m items (start_of l.subsystems) *ℚ c)
  paid m items short c n k some le =
      rw (
        mul_comm c (pay_error n m items),
        mul_comm c (pay_of l.subsystems n m items (start_of l.subsystems)),
        mul_comm c (pay_of l.subsystems k m items (start_of l.subsystems)),
      ) at
      (near_scaled c _ _ _ (pay_near l.subsystems m items short n k some le (start_of l.subsystems)))

  error_down : (n : ℕ) → pay_error n Down (schedule_of l) *ℚ inverse (whole l.mission) ≤ℚ chance_error n l
  unfolding pay_error chance_error
  error_down n = rw (count-schedule l, hours-schedule l) (error_per_hour (all_beats_of l) l.mission (ratio 2 (factorial n)))

  error_entry : (n : ℕ) → pay_error n Entry (schedule_of l) *ℚ inverse (whole l.mission) ≡ entry_error n l
  unfolding pay_error entry_error
  error_entry n = rw (count-schedule l, entries-schedule l, whole-mul (all_beats_of l) (all_beats_of l + length (test_hours_of l))) refl

  error_mean : (p n : ℕ) → pay_error n Down (schedule_of_phase l p) *ℚ inverse (whole (slice_index_or (phases_of l) p no_phase).hours) ≤ℚ chance_error n l
  unfolding pay_error chance_error
  error_mean p n = rw (count-schedule_of_phase l p, hours-schedule_of_phase l p)
      (error_per_hour (all_beats_of l) (slice_index_or (phases_of l) p no_phase).hours (ratio 2 (factorial n)))

  error_end : (p n : ℕ) → pay_error n AtEnd (schedule_until l p) ≤ℚ chance_error n l
  unfolding pay_error chance_error
  error_end p n = rw (end-items (schedule_until l p), mul-one (whole (beat_count (schedule_until l p))))
      (mul-le-right _ _ (ratio 2 (factorial n)) (whole-le _ _ (count-schedule_until l p)))

  -- every figure at two orders
  pub figures_near : (f : Figure) (n m : ℕ) → 0 < n → n ≤ m → IsNear (error_of f n l) (figure_of f n l) (figure_of f m l)
  unfolding pfd_of pfh_of phase_mean_of phase_end_of
  figures_near Pfd n m some le =
      near_wider _ _ _ _ (paid Down (schedule_of l) (short_mission l v [] (schedule_of l) refl) (inverse (whole l.mission)) n m some le) (error_down n)
  figures_near Pfh n m some le =
      rw (error_entry n) at (paid Entry (schedule_of l) (short_mission l v [] (schedule_of l) refl) (inverse (whole l.mission)) n m some le)
  figures_near (PhaseMean p) n m some le =
      near_wider _ _ _ _ (paid Down (schedule_of_phase l p) (short_phase l v p [] (schedule_of_phase l p) refl)
      (inverse (whole (slice_index_or (phases_of l) p no_phase).hours)) n m some le) (error_mean p n)
  figures_near (PhaseEnd p) n m some le =
      near_wider _ _ _ _ (pay_near l.subsystems AtEnd (schedule_until l p) (short_until l v p [] (schedule_until l p) refl) n m some le
      (start_of l.subsystems)) (error_end p n)

  -- from where the errors are at most 1/k
  abbrev entries : ℕ
  entries = all_beats_of l * (all_beats_of l + length (test_hours_of l))

  chance_small : (k n : ℕ) → 0 < k → all_beats_of l * 2 * k ≤ n → chance_error n l ≤ℚ ratio 1 k
  unfolding chance_error
  chance_small k n some h = error_small (all_beats_of l) k n some h

  entry_small : (k n : ℕ) → 0 < k → entries * 2 * k ≤ n → entry_error n l ≤ℚ ratio 1 k
  unfolding entry_error
  entry_small k n some h =
      let lasting : 0 < l.mission = omega (arith, v.mission.above) in
      let not_zero : whole l.mission ≡ whole 0 → ⊥ = whole-positive l.mission lasting in
      le_trans _ _ _
      (le_from_multiplied _ _ (whole l.mission) not_zero
      (rw (quotient-mul (whole entries *ℚ ratio 2 (factorial n)) (whole l.mission) not_zero)
      (grown (whole entries *ℚ ratio 2 (factorial n)) (whole l.mission) (whole-le 1 l.mission lasting))))
      (error_small entries k n some h)

  abbrev pub place : Figure → ℕ → ℕ
  place Pfd k = all_beats_of l * 2 * k
  place Pfh k = all_beats_of l * (all_beats_of l + length (test_hours_of l)) * 2 * k
  place (PhaseMean p) k = all_beats_of l * 2 * k
  place (PhaseEnd p) k = all_beats_of l * 2 * k

  pub errors_small : (f : Figure) (k n : ℕ) → 0 < k → place f k ≤ n → error_of f n l ≤ℚ ratio 1 k
  errors_small Pfd k n some h = chance_small k n some h
  errors_small Pfh k n some h = entry_small k n some h
  errors_small (PhaseMean p) k n some h = chance_small k n some h
  errors_small (PhaseEnd p) k n some h = chance_small k n some h

  pub errors_vanish : (f : Figure) (k : ℕ) → 0 < k → (place : ℕ) × ((n : ℕ) → place ≤ n → error_of f n l ≤ℚ ratio 1 k)
  errors_vanish f k some = (place f k, λ n h. errors_small f k n some h)

  -- the exact figures
  pub exact_figure : (f : Figure) → (r : Real) × IsExact f l r
  exact_figure f = (
    limit (λ n. figure_of f n l) (λ n. error_of f n l) (figures_near f) (place f) (errors_small f),
    record { limit = approaches_limit (λ n. figure_of f n l) (λ n. error_of f n l) (figures_near f) (place f) (errors_small f) },
  )

  pub exact_near : (f : Figure) (r : Real) → IsExact f l r → (n : ℕ) → 0 < n → IsNearReal (error_of f n l) (figure_of f n l) r
  exact_near f r exact n some = near_limit (λ n. figure_of f n l) r exact.limit (error_of f n l) n (λ m le. figures_near f n m some le)

-- an interval in units of 10^-18
above18 : (lo hi : ℕ) (x : Fraction) → Contains18 lo hi x → ratio lo (10 ^ 18) ≤ℚ x
above18 lo hi x c = le_trans _ _ _ (mul-le-right _ _ (inverse (whole (10 ^ 18))) c.above)
    (le_of_same _ _ (undone x (whole (10 ^ 18)) (whole-positive (10 ^ 18) (omega arith))))

below18 : (lo hi : ℕ) (x : Fraction) → Contains18 lo hi x → x ≤ℚ ratio hi (10 ^ 18)
below18 lo hi x c = le_trans _ _ _ (le_of_same _ _ (sym (undone x (whole (10 ^ 18)) (whole-positive (10 ^ 18) (omega arith)))))
    (mul-le-right _ _ (inverse (whole (10 ^ 18))) c.below)

pub fraction18 : (lo hi : ℕ) (q : Fraction) → ContainsReal18 lo hi (real_of q) → Contains18 lo hi q
fraction18 lo hi q c =
    let P : Fraction = whole (10 ^ 18) in
    let some : P ≡ whole 0 → ⊥ = whole-positive (10 ^ 18) (omega arith) in
    let b : (ratio lo (10 ^ 18) ≤ℚ q) × (q ≤ℚ ratio hi (10 ^ 18)) = fraction_bounds _ _ q c.between in
    record {
      above = rw (quotient-mul (whole lo) P some) at (mul-le-right _ _ P b.0);
      below = rw (quotient-mul (whole hi) P some) at (mul-le-right _ _ P b.1);
    }

pub contained18 : (x : ℕ → Fraction) (r : Real) → Approaches x r → (order lo hi : ℕ) → ((n : ℕ) → order ≤ n → Contains18 lo hi (x n)) → ContainsReal18 lo hi r
contained18 x r a order lo hi c = record { between = bounds_kept _ _ x r a order (λ n h. above18 lo hi (x n) (c n h)) (λ n h. below18 lo hi (x n) (c n h)) }

-- the exact figure lies in each interval that contains the figures at all orders from some order on
pub exact_inside : (f : Figure) (l : LoopValue) → IsValid l → (order lo hi : ℕ)
    → ((n : ℕ) → order ≤ n → Contains18 lo hi (figure_of f n l)) → ContainsExact18 f l lo hi
exact_inside f l v order lo hi c =
    record { exists = exact_figure l v f; inside = λ r exact. contained18 (λ n. figure_of f n l) r exact.limit order lo hi c }
