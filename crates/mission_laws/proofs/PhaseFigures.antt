-- The mean of a phase and the chance at its end lie between the ends that its vectors give, and these are within the budget.
use Rattle.std.proofs.Common.{◌≡◌, ℕ, suc, ◌+◌, ◌-◌, ◌*◌, ◌/◌, ◌^◌, ◌<◌, ◌≤◌, List, [], length, refl, sym, ap, subst, ◌∙◌, arith}
use Rattle.std.specs.Prelude.{true, false, not}
use Rattle.std.proofs.Math.Nat.{div-mul-le_self, lt_of_mul-lt-mul_right, lt-div-mul-add}
use Rattle.std.proofs.lemmas.List.Elements.{All-get_or}
use Rattle.sil_fraction.specs.Fraction.{Fraction, ◌+ℚ◌, ◌*ℚ◌, ◌≤ℚ◌, whole, inverse}
use Rattle.sil_fraction.proofs.Laws.{zero-add, mul_comm, mul_assoc, mul-add, le_refl, le_trans, le_of_same, mul-le-right, whole-add, whole-mul, whole-le, add-le-cancel_right, mul-inverse}
use Rattle.sil_fraction.proofs.Sums.{add-le-add, add-zero, mul-one, mul-zero, whole-positive, le_from_scaled}
use Rattle.sil_model.specs.State.{start_of, is_up_of}
use Rattle.sil_model.specs.Budget.{budget_of, pfd_width_of}
use Rattle.sil_model.specs.Series.{Values}
use Rattle.sil_model.specs.Calendar.{ceiling, Phase, phases_of}
use Rattle.sil_model.specs.Figures.{no_phase, phase_mean_of, phase_end_of, Contains18}
use Rattle.sil_model.specs.LoopValue.{LoopValue, IsValid, IsWithin}
use Rattle.sil_model.specs.Pay.{payoff_of, last_of, one_if, pay_of, schedule_of_phase, schedule_until}
use Rattle.sil_model.specs.Pay.Mode.{Down, Up, AtEnd, UpAtEnd}
use Rattle.sil_model.specs.declared.parts.Subsystem.{Subsystem}
use Rattle.model_laws.specs.Hours.{hours_of}
use Rattle.model_laws.proofs.Rates.{rounded_up}
use Rattle.schedule_laws.proofs.ShortSchedules.{short_phase, short_until}
use Rattle.schedule_laws.proofs.Ends.{end-both}
use Rattle.schedule_laws.proofs.ScheduleHours.{hours_of_phase}
use Rattle.schedule_laws.proofs.PhasesOfLoop.{phases_of_last}
use Rattle.lumped_laws.specs.StateOfCounts.{state_numbered}
use Rattle.lumped_laws.specs.PayList.{payoff_list, last_list, pay_list}
use Rattle.lumped_laws.proofs.Figures.{figure_laws}
use Rattle.lumped_laws.proofs.Pays.{pay_laws}
use Rattle.mission_laws.specs.Counted.{counted_list, test_hours_in}
use Rattle.mission_laws.specs.Missions.{pfd_lower, pfd_upper}
use Rattle.mission_laws.proofs.Counted.{counted-both}
use Rattle.mission_laws.proofs.Complements.{down-counted}
use Rattle.mission_laws.specs.Arrived.{beats_list, beats_mean_list, expected_at}
use Rattle.mission_laws.specs.PhaseLaws.{phase_hours, HasPassed, HasSides, PhaseFigureLaw}
use Rattle.mission_laws.proofs.PhasePays.{phase-counts, until-counts, down-at-end, up-at-end}

-- a part of 1 in units of 1 / P, turned to decimals downward and upward
decimal_down : (lo m P E : ℕ) (x : Fraction) → 0 < P → lo * P ≤ m * E → whole m ≤ℚ whole P *ℚ x → whole lo ≤ℚ x *ℚ whole E
decimal_down lo m P E x p h g =
    let a : whole lo *ℚ whole P ≤ℚ whole m *ℚ whole E = rw (whole-mul, whole-mul) at (whole-le (lo * P) (m * E) h) in
    let b : whole m *ℚ whole E ≤ℚ (whole P *ℚ x) *ℚ whole E = mul-le-right _ _ (whole E) g in
    let c : (whole P *ℚ x) *ℚ whole E ≡ (x *ℚ whole E) *ℚ whole P = grind (arith, mul_assoc, mul_comm) in
    le_from_scaled P _ _ p (rw c at (le_trans _ _ _ a b))

decimal_up : (hi m P E : ℕ) (x : Fraction) → 0 < P → m * E ≤ hi * P → whole P *ℚ x ≤ℚ whole m → x *ℚ whole E ≤ℚ whole hi
decimal_up hi m P E x p h g =
    let a : whole m *ℚ whole E ≤ℚ whole hi *ℚ whole P = rw (whole-mul, whole-mul) at (whole-le (m * E) (hi * P) h) in
    let b : (whole P *ℚ x) *ℚ whole E ≤ℚ whole m *ℚ whole E = mul-le-right _ _ (whole E) g in
    let c : (whole P *ℚ x) *ℚ whole E ≡ (x *ℚ whole E) *ℚ whole P = grind (arith, mul_assoc, mul_comm) in
    le_from_scaled P _ _ p (rw c at (le_trans _ _ _ b a))

-- what is no less than w of the rest leaves no more than P - w
complement : (w P : ℕ) (x y : Fraction) → w ≤ P → x +ℚ y ≡ whole 1 → whole w ≤ℚ whole P *ℚ y → whole P *ℚ x ≤ℚ whole (P - w)
complement w P x y h e g =
    let k : (P - w) + w ≡ P = omega arith in
    let s : whole P *ℚ x +ℚ whole P *ℚ y ≡ whole (P - w) +ℚ whole w = sym (mul-add (whole P) x y) ∙ ap (λ z. whole P *ℚ z) e ∙ mul-one (whole P) ∙ ap whole (sym k) ∙ whole-add (P - w) w in
    let t : whole P *ℚ x +ℚ whole w ≤ℚ whole (P - w) +ℚ whole w = le_trans _ _ _ (add-le-add _ _ _ _ (le_refl (whole P *ℚ x)) g) (le_of_same _ _ s) in
    add-le-cancel_right _ _ _ t

between : (down up : ℕ) (x y : Fraction) → up ≤ 2 ^ 48 → x +ℚ y ≡ whole 1 → whole down ≤ℚ whole (2 ^ 48) *ℚ x → whole up ≤ℚ whole (2 ^ 48) *ℚ y
    → Contains18 (pfd_lower down) (pfd_upper up) x
between down up x y few both lo hi = record {
  above = decimal_down (pfd_lower down) down (2 ^ 48) (10 ^ 18) x (omega arith) (div-mul-le_self (down * 10 ^ 18) (2 ^ 48)) lo;
  below = decimal_up (pfd_upper up) (2 ^ 48 - up) (2 ^ 48) (10 ^ 18) x (omega arith) (rounded_up ((2 ^ 48 - up) * 10 ^ 18) (2 ^ 48) (omega arith))
      (complement up (2 ^ 48) x y few both hi);
}

-- a ceiling is at most two above the floors of two parts that come to no less
ceiling-mul-lt : (n d : ℕ) → 0 < d → ceiling n d * d < n + d
ceiling-mul-lt n d p = omega (arith, div-mul-le_self (n + (d - 1)) d)

apart : (n a b d : ℕ) → 0 < d → n ≤ a + b → ceiling n d ≤ a / d + (b / d + 2)
apart n a b d p h =
    omega (
      arith,
      lt_of_mul-lt-mul_right d {m = ceiling n d} {n = a / d + b / d + 3}
          (omega (arith, ceiling-mul-lt n d p, h, lt-div-mul-add {a = a} {b = d} p, lt-div-mul-add {a = b} {b = d} p)),
    )

narrow : (l : LoopValue) (order down up : ℕ) → 2 ^ 48 ≤ (down + up) + budget_of l order → pfd_upper up ≤ pfd_lower down + pfd_width_of l order
unfolding pfd_width_of
narrow l order down up h = apart ((2 ^ 48 - up) * 10 ^ 18) (down * 10 ^ 18) (budget_of l order * 10 ^ 18) (2 ^ 48) (omega arith) (omega (arith, h))

-- shared over hours
cancel : (h : ℕ) → 0 < h → (c : Fraction) → (whole h *ℚ c) *ℚ inverse (whole h) ≡ c
cancel h p c =
    ap (λ x. x *ℚ inverse (whole h)) (mul_comm (whole h) c) ∙ mul_assoc c (whole h) (inverse (whole h))
    ∙ ap (λ x. c *ℚ x) (mul-inverse (whole h) (whole-positive h p)) ∙ mul-one c

down-or-up : (us : List Subsystem) (i : ℕ) → payoff_list us Down i +ℚ payoff_list us Up i ≡ whole 1
unfolding payoff_of
down-or-up us i = elim (is_up_of us (state_numbered us i)) as (λ b. one_if (not b) +ℚ one_if b ≡ whole 1) [ true ↦ zero-add _ | false ↦ add-zero _ ]

module _ (l : LoopValue) (valid : IsValid l) (p : ℕ) (within : p < length (phases_of l)) where
  lasts : 0 < phase_hours l p
  lasts = omega (arith, (All-get_or (λ (q : Phase). IsWithin 1 350_400 q.hours) (phases_of l) p no_phase within (phases_of_last l valid)).above)

  -- the chance over the phase and at its end, by what is expected at its start
  abbrev mean_chance : ℕ → Values ℕ → Fraction
  mean_chance n f = expected_at l n p (phases_of l) (beats_mean_list l.subsystems n (phase_hours l p) f) 0

  abbrev end_chance : ℕ → Values ℕ → Fraction
  end_chance n f = expected_at l n p (phases_of l) (beats_list l.subsystems n (phase_hours l p) f) 0

  module _ (n : ℕ) where
    is_mean : phase_mean_of (suc n) l p ≡ mean_chance (suc n) (payoff_list l.subsystems Down)
    is_mean =
        (figure_laws l).phase_mean (suc n) p
        ∙ ap (λ x. x *ℚ inverse (whole (phase_hours l p)))
        (ap (λ (g : Values ℕ). g 0) (down-counted l.subsystems (suc n) (schedule_of_phase l p) ∙ phase-counts l (suc n) (payoff_list l.subsystems Down) p within))
        ∙ cancel (phase_hours l p) lasts _

    mean_whole : mean_chance (suc n) (payoff_list l.subsystems Down) +ℚ mean_chance (suc n) (payoff_list l.subsystems Up) ≡ whole 1
    mean_whole =
        let a : Fraction = mean_chance (suc n) (payoff_list l.subsystems Down) in
        let b : Fraction = mean_chance (suc n) (payoff_list l.subsystems Up) in
        let h : Fraction = whole (phase_hours l p) in
        let both : h *ℚ a +ℚ h *ℚ b ≡ h =
        ap (λ (g : Values ℕ). g 0 +ℚ h *ℚ b) (sym (phase-counts l (suc n) (payoff_list l.subsystems Down) p within))
        ∙ ap (λ (g : Values ℕ). counted_list l.subsystems (suc n) (payoff_list l.subsystems Down) (λ ts i. whole 0) (λ i. whole 0) (schedule_of_phase l p) 0 +ℚ g 0) (sym (phase-counts l (suc n) (payoff_list l.subsystems Up) p within))
        ∙ counted-both l.subsystems n (payoff_list l.subsystems Down) (payoff_list l.subsystems Up) (λ ts j. whole 0) (λ ts j. whole 0) (whole 1) (whole 0)
        (down-or-up l.subsystems) (λ ts likely j. zero-add (whole 0)) (schedule_of_phase l p) (short_phase l valid p [] (schedule_of_phase l p) refl) 0
        ∙ cc (mul-one (hours_of (schedule_of_phase l p)), mul-zero (whole (test_hours_in (schedule_of_phase l p))), add-zero (hours_of (schedule_of_phase l p)), hours_of_phase l p) in
        sym (cancel (phase_hours l p) lasts (a +ℚ b)) ∙ ap (λ x. x *ℚ inverse h) (mul-add h a b ∙ both) ∙ mul-inverse h (whole-positive (phase_hours l p) lasts)

    is_end : phase_end_of (suc n) l p ≡ end_chance (suc n) (payoff_list l.subsystems Down)
    unfolding payoff_of last_of
    is_end =
        (figure_laws l).phase_end (suc n) p
        ∙ ap (λ (g : Values ℕ). g 0) (down-at-end l.subsystems (suc n) (schedule_until l p) ∙ until-counts l n (last_list l.subsystems AtEnd) p within)

    is_end_up : pay_list l.subsystems (suc n) UpAtEnd (schedule_until l p) 0 ≡ end_chance (suc n) (payoff_list l.subsystems Up)
    unfolding payoff_of last_of
    is_end_up = ap (λ (g : Values ℕ). g 0) (up-at-end l.subsystems (suc n) (schedule_until l p) ∙ until-counts l n (last_list l.subsystems UpAtEnd) p within)

    end_whole : end_chance (suc n) (payoff_list l.subsystems Down) +ℚ end_chance (suc n) (payoff_list l.subsystems Up) ≡ whole 1
    end_whole =
        ap (λ x. x +ℚ end_chance (suc n) (payoff_list l.subsystems Up)) (sym is_end ∙ (figure_laws l).phase_end (suc n) p)
        ∙ ap (λ x. pay_list l.subsystems (suc n) AtEnd (schedule_until l p) 0 +ℚ x) (sym is_end_up)
        ∙ ap (λ x. x +ℚ pay_list l.subsystems (suc n) UpAtEnd (schedule_until l p) 0) (sym ((pay_laws l).until_start p (suc n) AtEnd))
        ∙ ap (λ x. pay_of l.subsystems (suc n) AtEnd (schedule_until l p) (start_of l.subsystems) +ℚ x) (sym ((pay_laws l).until_start p (suc n) UpAtEnd))
        ∙ end-both l.subsystems (suc n) (schedule_until l p) (short_until l valid p [] (schedule_until l p) refl) (start_of l.subsystems)

  module _ (order : ℕ) (mean end : List ℕ) (passed : HasPassed l order p mean end) (down up n : ℕ) (o : order ≤ suc n) where
    mean_inside : HasSides l mean down up → Contains18 (pfd_lower down) (pfd_upper up) (phase_mean_of (suc n) l p)
    mean_inside sides =
        rw (is_mean n) (between down up _ _ (omega (arith, sides.all, passed.mean_mass)) (mean_whole n)
        (rw sides.down at (passed.means (suc n) o (payoff_list l.subsystems Down))) (rw sides.up at (passed.means (suc n) o (payoff_list l.subsystems Up))))

    end_inside : HasSides l end down up → Contains18 (pfd_lower down) (pfd_upper up) (phase_end_of (suc n) l p)
    end_inside sides =
        rw (is_end n) (between down up _ _ (omega (arith, sides.all, passed.end_mass)) (end_whole n)
        (rw sides.down at (passed.ends (suc n) o (payoff_list l.subsystems Down))) (rw sides.up at (passed.ends (suc n) o (payoff_list l.subsystems Up))))

-- an order is not 0
orders : (order n : ℕ) → 16 ≤ order → order ≤ n → suc (n - 1) ≡ n
orders order n o h = omega arith

pub phase_figure_laws : (l : LoopValue) → IsValid l → PhaseFigureLaw l
phase_figure_laws l valid = record {
  mean = λ order p mean end down up least within passed sides n o.
      subst (λ k. Contains18 (pfd_lower down) (pfd_upper up) (phase_mean_of k l p)) (orders order n least o)
      (mean_inside l valid p within order mean end passed down up (n - 1) (omega (arith, o, least)) sides);
  end = λ order p mean end down up least within passed sides n o.
      subst (λ k. Contains18 (pfd_lower down) (pfd_upper up) (phase_end_of k l p)) (orders order n least o)
      (end_inside l valid p within order mean end passed down up (n - 1) (omega (arith, o, least)) sides);
  mean_width = λ order p mean end down up passed sides. narrow l order down up (omega (arith, passed.mean_lack, sides.all));
  end_width = λ order p mean end down up passed sides. narrow l order down up (omega (arith, passed.end_lack, sides.all));
}
