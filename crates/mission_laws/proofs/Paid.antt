-- A vector that is pushed through a mission, phase by phase and tests by tests, pays no more than what was expected.
use Rattle.std.proofs.Common.{◌≡◌, ℕ, ◌+◌, ◌^◌, List, [], ◌∷◌, ◌++◌, true, sym, ap, ◌∙◌}
use Rattle.sil_fraction.specs.Fraction.{Fraction, ◌+ℚ◌, ◌*ℚ◌, ◌≤ℚ◌, whole, ratio}
use Rattle.sil_fraction.proofs.Laws.{add_comm, add_assoc, le_refl, le_trans, le_of_same, whole-add, zero-add}
use Rattle.sil_fraction.proofs.Sums.{add-le-add, le-add_right}
use Rattle.sil_model.specs.Series.{Values}
use Rattle.sil_model.specs.Calendar.{ChannelTest, beats_of}
use Rattle.sil_model.specs.Pay.{Item, beats_items}
use Rattle.sil_model.specs.Pay.Item.{Tests}
use Rattle.sil_model.specs.declared.parts.Subsystem.{Subsystem}
use Rattle.lumped_laws.specs.ValueLists.{phase_list, phase_mean_list, test_list}
use Rattle.vector_laws.specs.Vectors.{weigh}
use Rattle.vector_laws.proofs.Weighing.{weigh-add, weigh-both}
use Rattle.mission_laws.specs.Counted.{counted_list}
use Rattle.mission_laws.specs.Paid.{HasPaid}
use Rattle.mission_laws.proofs.Phases.{phase-counted}

module _ (us : List Subsystem) (n : ℕ) (f : Values ℕ) (p : List ChannelTest → Values ℕ) (last : Values ℕ) (all : List Item) where
  abbrev counted : List Item → Values ℕ
  counted = counted_list us n f p last

  abbrev Paid : List Item → List ℕ → List ℕ → ℕ → Type 0
  Paid = HasPaid us n f p last all

  -- at the start nothing is counted, and the vector stands at the number 0
  pub paid-first : (dwell v : List ℕ) → weigh dwell f ≡ whole 0 → weigh v (counted all) ≤ℚ whole (2 ^ 48) *ℚ counted all 0 → Paid all dwell v 0
  paid-first dwell v none first = record {
    paid = le_trans _ _ _ (le_of_same _ _ (ap (λ x. (x +ℚ whole 0) +ℚ weigh v (counted all)) none ∙ ap (λ x. x +ℚ weigh v (counted all)) (zero-add (whole 0)) ∙ zero-add _)) first;
  }

  -- a phase of t hours
  module _ (t : ℕ) (left : List Item) (dwell v dwell' v' : List ℕ) (passed : ℕ) where
    abbrev h : Fraction
    h = ratio t (beats_of us t)

    pub paid-phase : ((g : Values ℕ) → weigh v' g ≤ℚ weigh v (phase_list us n h (beats_of us t) g))
        → weigh dwell' f ≤ℚ weigh dwell f +ℚ whole t *ℚ weigh v (phase_mean_list us n h (beats_of us t) f)
        → Paid (beats_items us true t ++ left) dwell v passed → Paid left dwell' v' passed
    paid-phase ends stays before = record {
      paid =
          let D : Fraction = weigh dwell f in
          let M : Fraction = whole t *ℚ weigh v (phase_mean_list us n h (beats_of us t) f) in
          let E : Fraction = weigh v (phase_list us n h (beats_of us t) (counted left)) in
          let e : weigh v (counted (beats_items us true t ++ left)) ≡ E +ℚ M =
          ap (weigh v) (phase-counted us n f p last t left)
          ∙ weigh-both v (whole t) (phase_list us n h (beats_of us t) (counted left)) (phase_mean_list us n h (beats_of us t) f) in
          le_trans _ _ _ (add-le-add _ _ _ _ (add-le-add _ _ _ _ stays (le_refl (whole passed))) (ends (counted left)))
          (le_trans _ _ _ (le_of_same _ _ (regroup D M (whole passed) E ∙ ap (λ x. (D +ℚ whole passed) +ℚ x) (sym e))) before.paid);
    }
      where
        regroup : (d m q e : Fraction) → ((d +ℚ m) +ℚ q) +ℚ e ≡ (d +ℚ q) +ℚ (e +ℚ m)
        regroup d m q e = cc (add_assoc d m q, add_comm m q, add_assoc d q m, add_assoc (d +ℚ q) m e, add_comm m e)

  -- the tests of an hour, at which x more is counted
  module _ (ts : List ChannelTest) (left : List Item) (dwell v v' : List ℕ) (passed x : ℕ) where
    pub paid-tests : ((g : Values ℕ) → weigh v' g ≤ℚ weigh v (test_list us ts g)) → whole x ≤ℚ weigh v (p ts)
        → Paid (Tests ts ∷ left) dwell v passed → Paid left dwell v' (passed + x)
    unfolding counted_list
    paid-tests ends pass before = record {
      paid =
          let D : Fraction = weigh dwell f +ℚ whole passed in
          le_trans _ _ _ (le_of_same _ _ (ap (λ y. (weigh dwell f +ℚ y) +ℚ weigh v' (counted left)) (whole-add passed x) ∙ regroup (weigh dwell f) (whole passed) (whole x) (weigh v' (counted left))))
          (le_trans _ _ _ (add-le-add _ _ _ _ (le_refl D) (add-le-add _ _ _ _ (ends (counted left)) pass))
          (le_trans _ _ _ (le_of_same _ _ (ap (λ y. D +ℚ y) (sym (weigh-add v (test_list us ts (counted left)) (p ts))))) before.paid));
    }
      where
        regroup : (d q x e : Fraction) → (d +ℚ (q +ℚ x)) +ℚ e ≡ (d +ℚ q) +ℚ (e +ℚ x)
        regroup d q x e = cc (add_assoc d q x, add_assoc (d +ℚ q) x e, add_comm x e)

  -- at the end nothing is left
  pub paid-all : (dwell v : List ℕ) (passed : ℕ) → Paid [] dwell v passed → weigh dwell f +ℚ whole passed ≤ℚ whole (2 ^ 48) *ℚ counted all 0
  paid-all dwell v passed after = le_trans _ _ _ (le-add_right _ _) after.paid
