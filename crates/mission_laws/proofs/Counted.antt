-- What is counted over a schedule: the pay of three modes, sums of what is counted, and constants.
use Rattle.std.proofs.Common.{◌≡◌, ℕ, suc, true, false, List, [], ◌∷◌, refl, sym, ap, ◌∙◌}
use Rattle.std.specs.Prelude.{if◌then◌else◌, ◌+◌}
use mathlib.Core.Path.{fun_ext}
use Rattle.sil_fraction.specs.Fraction.{Fraction, ◌+ℚ◌, ◌*ℚ◌, whole}
use Rattle.sil_fraction.proofs.Laws.{add_comm, add_assoc, mul-add, zero-add, whole-add, one-mul}
use Rattle.sil_fraction.proofs.Sums.{add-zero, add_swap, add-mul, trivial}
use Rattle.sil_model.specs.Series.{Values}
use Rattle.sil_model.specs.Calendar.{ChannelTest}
use Rattle.sil_model.specs.Pay.{Item, Mode}
use Rattle.sil_model.specs.Pay.Item.{Beat, Tests}
use Rattle.sil_model.specs.declared.parts.Subsystem.{Subsystem}
use Rattle.model_laws.specs.Hours.{hours_of, AreShort, AreChances}
use Rattle.model_laws.specs.Polynomial.{IsLinear}
use Rattle.model_laws.specs.Hours.AreShort.{none, beat, tests}
use Rattle.model_laws.proofs.Beats.{mean-adds, mean-constant}
use Rattle.lumped_laws.specs.ValueLists.{tick_list, beat_list, mean_list, test_list, passing_list}
use Rattle.lumped_laws.specs.PayList.{payoff_list, last_list, pay_list}
use Rattle.lumped_laws.specs.LinearLists.{LinearLaw, KeepsConstants}
use Rattle.lumped_laws.proofs.LinearLists.{tick-linear, linear_laws}
use Rattle.mission_laws.specs.Counted.{counted_list, test_hours_in}

regroup : (a h c x : Fraction) → (a *ℚ c +ℚ x) +ℚ h *ℚ c ≡ (a +ℚ h) *ℚ c +ℚ x
regroup a h c x = ap (λ y. y +ℚ h *ℚ c) (add_comm (a *ℚ c) x) ∙ add_assoc x (a *ℚ c) (h *ℚ c) ∙ ap (λ y. x +ℚ y) (sym (add-mul a h c)) ∙ add_comm x _

one_more : (k : ℕ) (d : Fraction) → whole k *ℚ d +ℚ d ≡ whole (k + 1) *ℚ d
one_more k d = sym (ap (λ x. x *ℚ d) (whole-add k 1) ∙ add-mul (whole k) (whole 1) d ∙ ap (λ x. whole k *ℚ d +ℚ x) (one-mul d))

-- the pay of a mode
module _ (us : List Subsystem) (n : ℕ) (m : Mode) where
  pub pay-counted : (items : List Item) → pay_list us n m items ≡ counted_list us n (payoff_list us m) (passing_list us m) (last_list us m) items
  unfolding pay_list counted_list
  pay-counted [] = refl
  pay-counted (Beat h counts ∷ rest) = fun_ext (λ i.
      ap (λ (v : Values ℕ). beat_list us n h v i +ℚ (if counts then h *ℚ mean_list us n h (payoff_list us m) i else whole 0)) (pay-counted rest))
  pay-counted (Tests ts ∷ rest) = fun_ext (λ i.
      ap (λ (v : Values ℕ). test_list us ts v i +ℚ passing_list us m ts i) (pay-counted rest))

module _ (us : List Subsystem) where
  linear : LinearLaw us
  linear = linear_laws us

  -- two things that are counted, which come together to c per hour and to d at the tests of an hour
  module _ (n : ℕ) (f g : Values ℕ) (p q : List ChannelTest → Values ℕ) (c d : Fraction)
      (hourly : (i : ℕ) → f i +ℚ g i ≡ c) (at_tests : (ts : List ChannelTest) → AreChances ts → (i : ℕ) → p ts i +ℚ q ts i ≡ d) where
    abbrev one : List Item → Values ℕ
    one = counted_list us (suc n) f p (λ i. whole 0)

    abbrev other : List Item → Values ℕ
    other = counted_list us (suc n) g q (λ i. whole 0)

    abbrev together : List Item → Fraction
    together items = hours_of items *ℚ c +ℚ whole (test_hours_in items) *ℚ d

    -- an operator that adds and keeps constants
    kept : (T : Values ℕ → Values ℕ) → IsLinear T → KeepsConstants T → (a b : Values ℕ) (x : Fraction)
        → ((i : ℕ) → a i +ℚ b i ≡ x) → (i : ℕ) → T a i +ℚ T b i ≡ x
    kept T linear_T keeps a b x both i =
        ap (λ (v : Values ℕ). v i) (sym (linear_T.adds a b) ∙ ap T (fun_ext both) ∙ keeps x)

    pub counted-both : (items : List Item) → AreShort us items → (i : ℕ) → one items i +ℚ other items i ≡ together items
    unfolding counted_list hours_of test_hours_in
    counted-both [] none i = simp trivial
    counted-both (Beat h true ∷ rest) (beat short more) i =
        let x : Fraction = together rest in
        let ends : beat_list us (suc n) h (one rest) i +ℚ beat_list us (suc n) h (other rest) i ≡ x =
        kept (beat_list us (suc n) h) (linear.beat (suc n) h) (linear.beat_keeps (suc n) h short) (one rest) (other rest) x (counted-both rest more) i in
        let means : mean_list us (suc n) h f i +ℚ mean_list us (suc n) h g i ≡ c =
        ap (λ (v : Values ℕ). v i)
        (sym (mean-adds (tick_list us h) (tick-linear us h) (suc n) f g) ∙ ap (mean_list us (suc n) h) (fun_ext hourly)
        ∙ mean-constant (tick_list us h) c (linear.tick_keeps h short c) (suc n) n refl) in
        add_swap _ _ _ _ ∙ ap (λ y. y +ℚ (h *ℚ mean_list us (suc n) h f i +ℚ h *ℚ mean_list us (suc n) h g i)) ends
        ∙ ap (λ y. x +ℚ y) (sym (mul-add h _ _) ∙ ap (λ y. h *ℚ y) means)
        ∙ regroup (hours_of rest) h c (whole (test_hours_in rest) *ℚ d)
    counted-both (Beat h false ∷ rest) (beat short more) i =
        let ends : beat_list us (suc n) h (one rest) i +ℚ beat_list us (suc n) h (other rest) i ≡ together rest =
        kept (beat_list us (suc n) h) (linear.beat (suc n) h) (linear.beat_keeps (suc n) h short) (one rest) (other rest) (together rest) (counted-both rest more) i in
        add_swap _ _ _ _ ∙ cc (ends, zero-add (whole 0), add-zero (together rest), add-zero (hours_of rest))
    counted-both (Tests ts ∷ rest) (tests likely more) i =
        let ends : test_list us ts (one rest) i +ℚ test_list us ts (other rest) i ≡ together rest =
        kept (test_list us ts) (linear.tests ts) (linear.tests_keep ts likely) (one rest) (other rest) (together rest) (counted-both rest more) i in
        add_swap _ _ _ _ ∙ ap (λ y. y +ℚ (p ts i +ℚ q ts i)) ends ∙ ap (λ y. together rest +ℚ y) (at_tests ts likely i)
        ∙ add_assoc (hours_of rest *ℚ c) (whole (test_hours_in rest) *ℚ d) d
        ∙ ap (λ y. hours_of rest *ℚ c +ℚ y) (one_more (test_hours_in rest) d)
