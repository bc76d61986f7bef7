-- The figures of a loop lie between the ends that the dwell of its mission gives.
use Rattle.std.proofs.Common.{◌≡◌, ℕ, suc, ◌+◌, ◌-◌, ◌*◌, ◌/◌, ◌^◌, ◌<◌, ◌≤◌, List, length, get_or, sum, sym, ap, ◌∙◌, arith}
use mathlib.Core.Path.{fun_ext}
use Rattle.std.proofs.Math.Nat.{div-mul-le_self}
use Rattle.sil_fraction.specs.Fraction.{Fraction, ◌+ℚ◌, ◌*ℚ◌, ◌≤ℚ◌, whole, ratio, inverse}
use Rattle.sil_fraction.proofs.Laws.{add_comm, add_assoc, mul_comm, mul_assoc, mul-add, le_refl, le_trans, le_of_same, mul-le-right, whole-add, whole-mul, whole-le, sub-add, add-le-cancel_right, mul-inverse}
use Rattle.sil_fraction.proofs.Sums.{add-le-add, add-mul, add_swap, mul-one, mul-below, below-le, whole-positive, le_from_scaled, divided}
use Rattle.sil_model.specs.Series.{Values}
use Rattle.sil_model.specs.Calendar.{ceiling, test_hours_of}
use Rattle.sil_model.specs.LoopValue.{LoopValue, IsValid}
use Rattle.sil_model.specs.Figures.{pfd_of, pfh_of, Contains18}
use Rattle.sil_model.specs.Pay.{schedule_of}
use Rattle.sil_model.specs.Pay.Mode.{Down, Up, Entry}
use Rattle.sil_model.specs.declared.parts.Subsystem.{Subsystem}
use Rattle.model_laws.proofs.Rates.{rounded_up}
use Rattle.lumped_laws.specs.PayList.{payoff_list, pay_list}
use Rattle.lumped_laws.proofs.Figures.{figure_laws}
use Rattle.vector_laws.specs.Vectors.{weigh}
use Rattle.mission_laws.specs.Counted.{counted_list}
use Rattle.mission_laws.specs.Calm.{calm_list, staying}
use Rattle.mission_laws.specs.Missions.{HasCounted, AreMeans, pfd_lower, pfd_upper, pfh_lower, pfh_upper}
use Rattle.vector_laws.proofs.Weighing.{weigh-add, weigh-constant}
use Rattle.mission_laws.proofs.Complements.{down-and-up, entry-and-calm}

-- the means weigh at most the dwell over the hours
pub weigh-means : (hours : ℕ) (dwell means : List ℕ) → AreMeans hours dwell means → (f : Values ℕ) → weigh means f *ℚ whole hours ≤ℚ weigh dwell f
unfolding weigh
weigh-means hours dwell means m f =
    rw (m.as_many, mul_comm _ (whole hours))
    (le_trans _ _ _ (le_of_same _ _ (mul-below (length dwell) (whole hours) (λ i. whole (get_or means i 0) *ℚ f i)))
    (below-le (length dwell) _ _ (λ i h.
    le_trans _ _ _ (le_of_same _ _ (sym (mul_assoc (whole hours) (whole (get_or means i 0)) (f i)) ∙ ap (λ x. x *ℚ f i) (sym (whole-mul hours (get_or means i 0)))))
    (mul-le-right _ _ (f i) (whole-le _ _ (rw (m.floors i h) (omega (arith, div-mul-le_self (get_or dwell i 0) hours))))))))

-- ends in units of 1 / P turned to decimals, downward and upward
decimal_down : (lo m P E : ℕ) (x : Fraction) → 0 < P → lo * P ≤ m * E → whole m ≤ℚ whole P *ℚ x → whole lo ≤ℚ x *ℚ whole E
decimal_down lo m P E x p h g =
    let a : whole lo *ℚ whole P ≤ℚ whole m *ℚ whole E = rw (whole-mul, whole-mul) at (whole-le (lo * P) (m * E) h) in
    let b : whole m *ℚ whole E ≤ℚ (whole P *ℚ x) *ℚ whole E = mul-le-right _ _ (whole E) g in
    let c : (whole P *ℚ x) *ℚ whole E ≡ (x *ℚ whole E) *ℚ whole P = grind (arith, mul_assoc, mul_comm) in
    le_from_scaled P _ _ p (rw c at (le_trans _ _ _ a b))

decimal_up : (hi m P E : ℕ) (x : Fraction) → 0 < P → m * E ≤ hi * P → whole P *ℚ x ≤ℚ whole m → x *ℚ whole E ≤ℚ whole hi
decimal_up hi m P E x p h g =
    let a : whole m *ℚ whole E ≤ℚ whole hi *ℚ whole P = rw (whole-mul, whole-mul) at (whole-le (m * E) (hi * P) h) in
    let b : (whole P *ℚ x) *ℚ whole E ≤ℚ whole m *ℚ whole E = mul-le-right _ _ (whole E) g in
    let c : (whole P *ℚ x) *ℚ whole E ≡ (x *ℚ whole E) *ℚ whole P = grind (arith, mul_assoc, mul_comm) in
    le_from_scaled P _ _ p (rw c at (le_trans _ _ _ b a))

-- an end of a frequency: a sum over m hours, in units of 1 / P and in units of which E are 1
rate_down : (lo x m P E : ℕ) (y : Fraction) → 0 < P → 0 < m → lo * P ≤ x → whole x *ℚ whole m ≤ℚ (whole P *ℚ y) *ℚ whole E
    → whole lo ≤ℚ (y *ℚ inverse (whole m)) *ℚ whole E
rate_down lo x m P E y p q h g =
    let a : whole lo *ℚ whole P ≤ℚ ((whole P *ℚ y) *ℚ whole E) *ℚ inverse (whole m) =
    le_trans _ _ _ (rw whole-mul at (whole-le (lo * P) x h)) (divided _ _ (whole m) (whole-positive m q) g) in
    let c : ((whole P *ℚ y) *ℚ whole E) *ℚ inverse (whole m) ≡ ((y *ℚ inverse (whole m)) *ℚ whole E) *ℚ whole P = grind (arith, mul_assoc, mul_comm) in
    le_from_scaled P _ _ p (rw c at a)

rate_up : (hi x m P E : ℕ) (y : Fraction) → 0 < P → 0 < m → x ≤ hi * P → (whole P *ℚ y) *ℚ whole E ≤ℚ whole x *ℚ whole m
    → (y *ℚ inverse (whole m)) *ℚ whole E ≤ℚ whole hi
rate_up hi x m P E y p q h g =
    let one : whole m *ℚ inverse (whole m) ≡ whole 1 = mul-inverse (whole m) (whole-positive m q) in
    let a : ((whole P *ℚ y) *ℚ whole E) *ℚ inverse (whole m) ≤ℚ whole x =
    le_trans _ _ _ (mul-le-right _ _ (inverse (whole m)) g) (le_of_same _ _ (mul_assoc (whole x) (whole m) (inverse (whole m)) ∙ ap (λ z. whole x *ℚ z) one ∙ mul-one (whole x))) in
    let c : ((whole P *ℚ y) *ℚ whole E) *ℚ inverse (whole m) ≡ ((y *ℚ inverse (whole m)) *ℚ whole E) *ℚ whole P = grind (arith, mul_assoc, mul_comm) in
    le_from_scaled P _ _ p (rw c at (le_trans _ _ _ a (rw whole-mul at (whole-le x (hi * P) h))))

-- what is lacking counts at the greatest rate g
by_the_rest : (P m S L T A B X Y g st mo : Fraction) → A +ℚ B ≡ S *ℚ g → P ≡ S +ℚ L → st +ℚ mo ≡ P *ℚ T
    → A *ℚ m +ℚ st ≤ℚ P *ℚ Y → X +ℚ Y ≡ m *ℚ g +ℚ T → P *ℚ X ≤ℚ L *ℚ (m *ℚ g) +ℚ (B *ℚ m +ℚ mo)
by_the_rest P m S L T A B X Y g st mo parts unit_parts tests calm both =
    let one : P *ℚ X +ℚ (A *ℚ m +ℚ st) ≤ℚ P *ℚ (m *ℚ g +ℚ T) =
    le_trans _ _ _ (add-le-add _ _ _ _ (le_refl (P *ℚ X)) calm) (le_of_same _ _ (sym (mul-add P X Y) ∙ ap (λ z. P *ℚ z) both)) in
    let two : (P *ℚ X +ℚ (A *ℚ m +ℚ st)) +ℚ (B *ℚ m +ℚ mo) ≤ℚ P *ℚ (m *ℚ g +ℚ T) +ℚ (B *ℚ m +ℚ mo) = add-le-add _ _ _ _ one (le_refl (B *ℚ m +ℚ mo)) in
    let left : (P *ℚ X +ℚ (A *ℚ m +ℚ st)) +ℚ (B *ℚ m +ℚ mo) ≡ P *ℚ X +ℚ (S *ℚ (m *ℚ g) +ℚ P *ℚ T) =
    add_assoc (P *ℚ X) (A *ℚ m +ℚ st) (B *ℚ m +ℚ mo)
    ∙ ap (λ z. P *ℚ X +ℚ z) (add_swap (A *ℚ m) st (B *ℚ m) mo ∙ cc (add-mul A B m, parts, tests, mul_assoc S g m, mul_comm g m)) in
    let right : P *ℚ (m *ℚ g +ℚ T) +ℚ (B *ℚ m +ℚ mo) ≡ (L *ℚ (m *ℚ g) +ℚ (B *ℚ m +ℚ mo)) +ℚ (S *ℚ (m *ℚ g) +ℚ P *ℚ T) =
    ap (λ z. z +ℚ (B *ℚ m +ℚ mo)) (mul-add P (m *ℚ g) T ∙ ap (λ z. z *ℚ (m *ℚ g) +ℚ P *ℚ T) unit_parts ∙ ap (λ z. z +ℚ P *ℚ T) (add-mul S L (m *ℚ g)))
    ∙ turned (S *ℚ (m *ℚ g)) (L *ℚ (m *ℚ g)) (P *ℚ T) (B *ℚ m +ℚ mo) in
    add-le-cancel_right _ _ (S *ℚ (m *ℚ g) +ℚ P *ℚ T) (le_trans _ _ _ (le_of_same _ _ (sym left)) (le_trans _ _ _ two (le_of_same _ _ right)))
  where
    turned : (s l t b : Fraction) → ((s +ℚ l) +ℚ t) +ℚ b ≡ (l +ℚ b) +ℚ (s +ℚ t)
    turned s l t b = grind (arith, add_assoc, add_comm)

-- a part of w in units of 1 / P, and its complement
complement : (w P : ℕ) (x y : Fraction) → w ≤ P → x +ℚ y ≡ whole 1 → whole w ≤ℚ whole P *ℚ y → whole P *ℚ x ≤ℚ whole (P - w)
complement w P x y h e g =
    let k : (P - w) + w ≡ P = omega arith in
    let s : whole P *ℚ x +ℚ whole P *ℚ y ≡ whole (P - w) +ℚ whole w = sym (mul-add (whole P) x y) ∙ ap (λ z. whole P *ℚ z) e ∙ mul-one (whole P) ∙ ap whole (sym k) ∙ whole-add (P - w) w in
    let t : whole P *ℚ x +ℚ whole w ≤ℚ whole (P - w) +ℚ whole w = le_trans _ _ _ (add-le-add _ _ _ _ (le_refl (whole P *ℚ x)) g) (le_of_same _ _ s) in
    add-le-cancel_right _ _ _ t

module _ (l : LoopValue) (valid : IsValid l) (n : ℕ) (greatest : Fraction) (dwell means : List ℕ) (passed stayed : ℕ)
    (counted : HasCounted l greatest (suc n) dwell passed stayed) (shared : AreMeans l.mission dwell means) where
  abbrev us : List Subsystem
  us = l.subsystems

  abbrev pays : Fraction
  pays = pay_list l.subsystems (suc n) Down (schedule_of l) 0

  abbrev ups : Fraction
  ups = pay_list l.subsystems (suc n) Up (schedule_of l) 0

  lasts : 0 < l.mission
  lasts = omega (arith, valid.mission.above)

  -- a part of the mission
  part : (x y : Fraction) (w : ℕ) (f : Values ℕ) → weigh dwell f ≤ℚ whole (2 ^ 48) *ℚ x → weigh means f ≡ whole w
      → whole w ≤ℚ whole (2 ^ 48) *ℚ (x *ℚ inverse (whole l.mission))
  part x y w f most e =
      rw mul_assoc at (divided _ _ (whole l.mission) (whole-positive l.mission lasts) (le_trans _ _ _ (rw e at (weigh-means l.mission dwell means shared f)) most))

  module _ (down up : ℕ) (is_down : weigh means (payoff_list l.subsystems Down) ≡ whole down) (is_up : weigh means (payoff_list l.subsystems Up) ≡ whole up) (few : up ≤ 2 ^ 48) where
    whole_time : pays *ℚ inverse (whole l.mission) +ℚ ups *ℚ inverse (whole l.mission) ≡ whole 1
    whole_time = sym (add-mul pays ups (inverse (whole l.mission))) ∙ ap (λ x. x *ℚ inverse (whole l.mission)) (down-and-up l valid n 0) ∙ mul-inverse (whole l.mission) (whole-positive l.mission lasts)

    pub pfd_between : Contains18 (pfd_lower down) (pfd_upper up) (pfd_of (suc n) l)
    pfd_between = rw ((figure_laws l).pfd (suc n)) (record {
      above = decimal_down (pfd_lower down) down (2 ^ 48) (10 ^ 18) (pays *ℚ inverse (whole l.mission)) (omega arith) (div-mul-le_self (down * 10 ^ 18) (2 ^ 48))
          (part pays pays down (payoff_list l.subsystems Down) counted.down is_down);
      below = decimal_up (pfd_upper up) (2 ^ 48 - up) (2 ^ 48) (10 ^ 18) (pays *ℚ inverse (whole l.mission)) (omega arith) (rounded_up ((2 ^ 48 - up) * 10 ^ 18) (2 ^ 48) (omega arith))
          (complement up (2 ^ 48) (pays *ℚ inverse (whole l.mission)) (ups *ℚ inverse (whole l.mission)) few whole_time
          (part ups ups up (payoff_list l.subsystems Up) counted.up is_up));
    })

  module _ (entries : ℕ) (is_entry : weigh means (payoff_list l.subsystems Entry) ≡ ratio entries (10 ^ 18)) where
    abbrev entry : Fraction
    entry = pay_list l.subsystems (suc n) Entry (schedule_of l) 0

    abbrev calm : Fraction
    calm = counted_list l.subsystems (suc n) (calm_list l.subsystems greatest) (staying l.subsystems) (λ i. whole 0) (schedule_of l) 0

    abbrev unit : Fraction
    unit = whole (10 ^ 18)

    is_entries : weigh means (payoff_list l.subsystems Entry) *ℚ unit ≡ whole entries
    is_entries = ap (λ x. x *ℚ unit) is_entry ∙ mul_assoc (whole entries) (inverse unit) unit
        ∙ ap (λ x. whole entries *ℚ x) (mul_comm (inverse unit) unit ∙ mul-inverse unit (whole-positive (10 ^ 18) (omega arith))) ∙ mul-one _

    -- entries over the mission, and at tests, in 10^-18
    least : ℕ
    least = 10 ^ 18 * passed / l.mission

    lower_sum : whole (entries + 10 ^ 18 * passed / l.mission) *ℚ whole l.mission ≤ℚ (whole (2 ^ 48) *ℚ entry) *ℚ unit
    lower_sum =
        let a : whole (entries + 10 ^ 18 * passed / l.mission) *ℚ whole l.mission
        ≤ℚ (weigh means (payoff_list l.subsystems Entry) *ℚ whole l.mission +ℚ whole passed) *ℚ unit =
        le_trans _ _ _ (le_of_same _ _ (ap (λ x. x *ℚ whole l.mission) (whole-add entries (10 ^ 18 * passed / l.mission)) ∙ add-mul _ _ _))
        (le_trans _ _ _ (add-le-add _ _ _ _ (le_of_same _ _ (ap (λ x. x *ℚ whole l.mission) (sym is_entries) ∙ turned _ unit (whole l.mission)))
        (le_trans _ _ _ (le_of_same _ _ (sym (whole-mul (10 ^ 18 * passed / l.mission) l.mission)))
        (le_trans _ _ _ (whole-le _ _ (div-mul-le_self (10 ^ 18 * passed) l.mission)) (le_of_same _ _ (whole-mul (10 ^ 18) passed ∙ mul_comm unit (whole passed))))))
        (le_of_same _ _ (sym (add-mul _ _ unit)))) in
        le_trans _ _ _ a (mul-le-right _ _ unit (le_trans _ _ _ (add-le-add _ _ _ _ (weigh-means l.mission dwell means shared (payoff_list l.subsystems Entry)) (le_refl (whole passed))) counted.entry))
      where
        turned : (x u m : Fraction) → (x *ℚ u) *ℚ m ≡ (x *ℚ m) *ℚ u
        turned x u m = mul_assoc x u m ∙ ap (λ y. x *ℚ y) (mul_comm u m) ∙ sym (mul_assoc x m u)

    pub pfh_above : whole (pfh_lower l.mission entries passed) ≤ℚ pfh_of (suc n) l *ℚ unit
    pfh_above = rw ((figure_laws l).pfh (suc n))
        (rate_down (pfh_lower l.mission entries passed) (entries + 10 ^ 18 * passed / l.mission) l.mission (2 ^ 48) (10 ^ 18) entry (omega arith) lasts
        (div-mul-le_self (entries + 10 ^ 18 * passed / l.mission) (2 ^ 48)) lower_sum)

    -- where the greatest rate is known, and what the means lack and what has passed at most
    module _ (rate lack most : ℕ) (is_rate : greatest ≡ ratio rate (10 ^ 18)) (small : (j : ℕ) → payoff_list l.subsystems Entry j ≤ℚ greatest)
        (is_lack : sum means + lack ≡ 2 ^ 48) (at_tests : stayed + most ≡ 2 ^ 48 * length (test_hours_of l)) where
      rates : weigh means (calm_list l.subsystems greatest) +ℚ weigh means (payoff_list l.subsystems Entry) ≡ whole (sum means) *ℚ greatest
      rates = sym (weigh-add means (calm_list l.subsystems greatest) (payoff_list l.subsystems Entry))
          ∙ ap (weigh means) (fun_ext (λ j. sub-add greatest _ (small j))) ∙ weigh-constant means greatest

      upper_sum : whole (2 ^ 48) *ℚ entry ≤ℚ whole lack *ℚ (whole l.mission *ℚ greatest) +ℚ (weigh means (payoff_list l.subsystems Entry) *ℚ whole l.mission +ℚ whole most)
      upper_sum = by_the_rest (whole (2 ^ 48)) (whole l.mission) (whole (sum means)) (whole lack) (whole (length (test_hours_of l)))
          (weigh means (calm_list l.subsystems greatest)) (weigh means (payoff_list l.subsystems Entry)) entry calm greatest (whole stayed) (whole most)
          rates (ap whole (sym is_lack) ∙ whole-add (sum means) lack)
          (sym (whole-add stayed most) ∙ ap whole at_tests ∙ whole-mul (2 ^ 48) (length (test_hours_of l)))
          (le_trans _ _ _ (add-le-add _ _ _ _ (weigh-means l.mission dwell means shared (calm_list l.subsystems greatest)) (le_refl (whole stayed))) counted.calm)
          (entry-and-calm l valid n 0 greatest small)

      in_units : (whole (2 ^ 48) *ℚ entry) *ℚ unit ≤ℚ whole (entries + rate * lack + ceiling (10 ^ 18 * most) l.mission) *ℚ whole l.mission
      in_units =
          let m : Fraction = whole l.mission in
          let one : greatest *ℚ unit ≡ whole rate = ap (λ x. x *ℚ unit) is_rate ∙ mul_assoc (whole rate) (inverse unit) unit
          ∙ ap (λ x. whole rate *ℚ x) (mul_comm (inverse unit) unit ∙ mul-inverse unit (whole-positive (10 ^ 18) (omega arith))) ∙ mul-one _ in
          let two : (whole lack *ℚ (m *ℚ greatest) +ℚ (weigh means (payoff_list l.subsystems Entry) *ℚ m +ℚ whole most)) *ℚ unit
          ≡ (whole (rate * lack) *ℚ m) +ℚ (whole entries *ℚ m +ℚ whole (10 ^ 18 * most)) =
          apart (whole lack) m greatest (weigh means (payoff_list l.subsystems Entry)) (whole most) unit
          ∙ cc (one, is_entries, whole-mul rate lack, mul_comm (whole lack) (whole rate), whole-mul (10 ^ 18) most, mul_comm (whole most) unit) in
          let three : whole (rate * lack) *ℚ m +ℚ (whole entries *ℚ m +ℚ whole (ceiling (10 ^ 18 * most) l.mission) *ℚ m)
          ≡ whole (entries + rate * lack + ceiling (10 ^ 18 * most) l.mission) *ℚ m =
          sym (ap (λ x. x *ℚ m) (whole-add (entries + rate * lack) (ceiling (10 ^ 18 * most) l.mission) ∙ ap (λ x. x +ℚ whole (ceiling (10 ^ 18 * most) l.mission)) (whole-add entries (rate * lack)))
          ∙ gathered (whole entries) (whole (rate * lack)) (whole (ceiling (10 ^ 18 * most) l.mission)) m) in
          le_trans _ _ _ (mul-le-right _ _ unit upper_sum) (le_trans _ _ _ (le_of_same _ _ two)
          (le_trans _ _ _ (add-le-add _ _ _ _ (le_refl _) (add-le-add _ _ _ _ (le_refl _)
          (le_trans _ _ _ (whole-le _ _ (rounded_up (10 ^ 18 * most) l.mission lasts)) (le_of_same _ _ (whole-mul _ _))))) (le_of_same _ _ three)))
        where
          apart : (k m g b mo u : Fraction) → (k *ℚ (m *ℚ g) +ℚ (b *ℚ m +ℚ mo)) *ℚ u ≡ (k *ℚ (g *ℚ u)) *ℚ m +ℚ ((b *ℚ u) *ℚ m +ℚ mo *ℚ u)
          apart k m g b mo u = grind (arith, add-mul, mul_assoc, mul_comm)

          gathered : (e r c m : Fraction) → ((e +ℚ r) +ℚ c) *ℚ m ≡ r *ℚ m +ℚ (e *ℚ m +ℚ c *ℚ m)
          gathered e r c m = grind (arith, add-mul, add_assoc, add_comm)

      pub pfh_between : Contains18 (pfh_lower l.mission entries passed) (pfh_upper l.mission entries rate lack most) (pfh_of (suc n) l)
      pfh_between = record {
        above = pfh_above;
        below = rw ((figure_laws l).pfh (suc n))
            (rate_up (pfh_upper l.mission entries rate lack most) (entries + rate * lack + ceiling (10 ^ 18 * most) l.mission) l.mission (2 ^ 48) (10 ^ 18) entry (omega arith) lasts
            (rounded_up (entries + rate * lack + ceiling (10 ^ 18 * most) l.mission) (2 ^ 48) (omega arith)) in_units);
      }
