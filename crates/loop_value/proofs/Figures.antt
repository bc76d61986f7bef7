-- The figures of a loop, by the means of its mission: they lie between the ends, which are no wider than the budget.
use Rattle.std.proofs.Common.{◌≡◌, ℕ, suc, ◌+◌, ◌-◌, ◌*◌, ◌^◌, ◌<◌, ◌≤◌, true, false, List, length, sum, get_or, refl, sym, ap, ◌∙◌, arith}
use Rattle.std.specs.Prelude.{Bool, not, if◌then◌else◌}
use Rattle.sil_fraction.specs.Fraction.{Fraction, ◌*ℚ◌, whole, ratio, inverse}
use Rattle.sil_fraction.proofs.Laws.{mul_comm, mul_assoc, whole-mul}
use Rattle.sil_fraction.proofs.Sums.{below-same, mul-below, whole-sum, mul-one, mul-zero}
use Rattle.sil_model.specs.State.{is_up_of}
use Rattle.sil_model.specs.Budget.{failure_rate_of, pfd_width_of, pfh_width_of}
use Rattle.sil_model.specs.Calendar.{test_hours_of}
use Rattle.sil_model.specs.Figures.{pfd_of, pfh_of, Contains18}
use Rattle.sil_model.specs.LoopValue.{LoopValue, IsValid}
use Rattle.sil_model.specs.Pay.{payoff_of, one_if}
use Rattle.sil_model.specs.Pay.Mode.{Down, Up, Entry}
use Rattle.sil_model.specs.Sizes.{states_of}
use Rattle.sil_model.specs.declared.parts.Subsystem.{Subsystem}
use Rattle.lumped_laws.specs.PayList.{payoff_list}
use Rattle.lumped_laws.specs.StateOfCounts.{state_numbered}
use Rattle.vector_laws.specs.Vectors.{weigh}
use Rattle.entry_rates.proofs.Greatest.{entry_laws}
use Rattle.mission_laws.specs.Losses.{HasLostInAll}
use Rattle.mission_laws.specs.Missions.{HasCounted, AreMeans, pfd_lower, pfd_upper, pfh_lower, pfh_upper}
use Rattle.mission_laws.proofs.Ends.{pfd_between, pfh_between}
use Rattle.mission_laws.proofs.Widths.{means-mass, pfd-width, pfh-width}
use Rattle.loop_value.specs.Ends.{sum_down, sum_up, entries_of}
use Rattle.loop_value.specs.Mission.{IsReady, greatest_of}
use Rattle.loop_value.specs.declared.preparing.Prepared.{Prepared}
use Rattle.loop_value.proofs.Places.{sides_all}

-- a number counts where the loop is down, or where it is up
counts_down : (up : Bool) (x : ℕ) → whole x *ℚ one_if (not up) ≡ whole (if up then 0 else x)
counts_down true x = mul-zero (whole x)
counts_down false x = mul-one (whole x)

counts_up : (up : Bool) (x : ℕ) → whole x *ℚ one_if up ≡ whole (if up then x else 0)
counts_up true x = mul-one (whole x)
counts_up false x = mul-zero (whole x)

module _ (us : List Subsystem) (means : List ℕ) (size : length means ≡ states_of us) where
  module _ (up : List Bool) (ups : (i : ℕ) (d : Bool) → i < states_of us → get_or up i d ≡ is_up_of us (state_numbered us i)) where
    pub weighs_down : weigh means (payoff_list us Down) ≡ whole (sum_down up means)
    unfolding weigh payoff_of
    weighs_down =
        below-same (length means) _ _ (λ i h.
        ap (λ b. whole (get_or means i 0) *ℚ one_if (not b)) (sym (ups i false (rw size at h))) ∙ counts_down (get_or up i false) (get_or means i 0))
        ∙ sym (whole-sum (length means) (λ i. if get_or up i false then 0 else get_or means i 0))

    pub weighs_up : weigh means (payoff_list us Up) ≡ whole (sum_up up means)
    unfolding weigh payoff_of
    weighs_up =
        below-same (length means) _ _ (λ i h.
        ap (λ b. whole (get_or means i 0) *ℚ one_if b) (sym (ups i false (rw size at h))) ∙ counts_up (get_or up i false) (get_or means i 0))
        ∙ sym (whole-sum (length means) (λ i. if get_or up i false then get_or means i 0 else 0))

  pub weighs_entries : (rates : List ℕ) → ((i : ℕ) → i < states_of us → ratio (get_or rates i 0) (10 ^ 18) ≡ payoff_list us Entry i)
      → weigh means (payoff_list us Entry) ≡ ratio (entries_of rates means) (10 ^ 18)
  unfolding weigh
  weighs_entries rates are =
      let u : Fraction = inverse (whole (10 ^ 18)) in
      below-same (length means) _ (λ i. u *ℚ whole (get_or means i 0 * get_or rates i 0)) (λ i h.
      ap (λ x. whole (get_or means i 0) *ℚ x) (sym (are i (rw size at h))) ∙ sym (mul_assoc (whole (get_or means i 0)) (whole (get_or rates i 0)) u)
      ∙ ap (λ x. x *ℚ u) (sym (whole-mul (get_or means i 0) (get_or rates i 0))) ∙ mul_comm _ u)
      ∙ sym (mul-below (length means) u (λ i. whole (get_or means i 0 * get_or rates i 0)))
      ∙ mul_comm u _ ∙ ap (λ x. x *ℚ u) (sym (whole-sum (length means) (λ i. get_or means i 0 * get_or rates i 0)))

-- an order is not 0
orders : (order n : ℕ) → 16 ≤ order → order ≤ n → suc (n - 1) ≡ n
orders order n o h = omega arith

-- a mission that is over, and the means over it
module _ (l : LoopValue) (valid : IsValid l) (order : ℕ) (least_order : 16 ≤ order) (m : Prepared) (ready : IsReady l m)
    (counted : (n : ℕ) → order ≤ n → HasCounted l (greatest_of l) n m.dwell.items m.passages.least (length (test_hours_of l) * 2 ^ 48 - m.passages.most))
    (lost : HasLostInAll l order m.dwell.items m.passages.least m.passages.most) (few : m.passages.most ≤ length (test_hours_of l) * 2 ^ 48)
    (means : List ℕ) (shared : AreMeans l.mission m.dwell.items means) where
  abbrev down : ℕ
  down = sum_down m.up.items means

  abbrev above : ℕ
  above = sum_up m.up.items means

  abbrev entries : ℕ
  entries = entries_of m.rates.items means

  abbrev stays : ℕ
  stays = length (test_hours_of l) * 2 ^ 48 - m.passages.most

  pub mass : sum means ≤ 2 ^ 48
  mass = means-mass l valid order m.dwell.items means m.passages.least m.passages.most lost shared ready.dwell

  as_many : length means ≡ states_of l.subsystems
  as_many = shared.as_many ∙ ready.dwell

  all : down + above ≡ sum means
  all = sides_all m.up.items means

  pub pfd_inside : (N : ℕ) → order ≤ N → Contains18 (pfd_lower down) (pfd_upper above) (pfd_of N l)
  pfd_inside N o =
      let e : suc (N - 1) ≡ N = orders order N least_order o in
      rw e at (pfd_between l valid (N - 1) (greatest_of l) m.dwell.items means m.passages.least stays (rw (← e) at (counted N o)) shared
      down above (weighs_down l.subsystems means as_many m.up.items ready.up) (weighs_up l.subsystems means as_many m.up.items ready.up) (omega (arith, all, mass)))

  pub pfd_narrow : pfd_upper above ≤ pfd_lower down + pfd_width_of l order
  pfd_narrow = pfd-width l valid order m.dwell.items means m.passages.least m.passages.most lost shared ready.dwell down above all

  module _ (lack : ℕ) (is_lack : sum means + lack ≡ 2 ^ 48) where
    pub pfh_inside : (N : ℕ) → order ≤ N
        → Contains18 (pfh_lower l.mission entries m.passages.least) (pfh_upper l.mission entries (failure_rate_of l.subsystems) lack m.passages.most) (pfh_of N l)
    pfh_inside N o =
        let e : suc (N - 1) ≡ N = orders order N least_order o in
        rw e at (pfh_between l valid (N - 1) (greatest_of l) m.dwell.items means m.passages.least stays (rw (← e) at (counted N o)) shared
        entries (weighs_entries l.subsystems means as_many m.rates.items ready.rates) (failure_rate_of l.subsystems) lack m.passages.most refl
        ((entry_laws l).numbers valid) is_lack (omega (arith, few)))

    pub pfh_narrow : pfh_upper l.mission entries (failure_rate_of l.subsystems) lack m.passages.most ≤ pfh_lower l.mission entries m.passages.least + pfh_width_of l order
    pfh_narrow = pfh-width l valid order m.dwell.items means m.passages.least m.passages.most lost shared ready.dwell entries lack is_lack
