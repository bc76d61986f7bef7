-- The mean of a phase and the chance at its end, as what is expected of values at its start.
use Rattle.std.proofs.Common.{◌≡◌, ℕ, zero, suc, ◌+◌, ◌<◌, true, false, inl, inr, List, [], ◌∷◌, ◌++◌, length, get_or, append-nil, refl, sym, ap, ◌∙◌, arith, ne_eqb}
use Rattle.std.specs.Prelude.{◌==◌}
use Rattle.std.proofs.lemmas.Bool.Decides.{eqb_tells}
use mathlib.Core.Path.{fun_ext}
use Rattle.sil_fraction.specs.Fraction.{Fraction, ◌+ℚ◌, ◌*ℚ◌, whole, ratio, inverse}
use Rattle.sil_fraction.specs.Sum.{total_below}
use Rattle.sil_fraction.proofs.Laws.{zero-add, zero-mul}
use Rattle.sil_fraction.proofs.Sums.{add-zero, mul-zero, below-constant}
use Rattle.sil_model.specs.Series.{Values, times}
use Rattle.sil_model.specs.Calendar.{ChannelTest, Phase, phases_of, tests_at, beats_of}
use Rattle.sil_model.specs.Figures.{no_phase}
use Rattle.sil_model.specs.LoopValue.{LoopValue}
use Rattle.sil_model.specs.Pay.{Item, payoff_of, beats_items, items_from, items_until, schedule_of_phase, schedule_until}
use Rattle.sil_model.specs.Pay.Item.{Tests}
use Rattle.sil_model.specs.Pay.Mode.{AtEnd, UpAtEnd}
use Rattle.sil_model.specs.declared.parts.Subsystem.{Subsystem}
use Rattle.model_laws.specs.Polynomial.{IsLinear}
use Rattle.model_laws.proofs.Operators.{times-linear, times-constant}
use Rattle.model_laws.proofs.Beats.{mean-constant}
use Rattle.lumped_laws.specs.ValueLists.{tick_list, beat_list, mean_list, test_list, passing_list}
use Rattle.lumped_laws.specs.PayList.{last_list, pay_list}
use Rattle.lumped_laws.specs.LinearLists.{LinearLaw}
use Rattle.lumped_laws.proofs.LinearLists.{linear_laws}
use Rattle.mission_laws.specs.Counted.{counted_list}
use Rattle.mission_laws.proofs.Counted.{pay-counted}
use Rattle.mission_laws.proofs.Phases.{phase-counted, phase-idle}
use Rattle.mission_laws.specs.Arrived.{beats_list, beats_mean_list, expected_at}

-- nothing, whatever the number
abbrev pub nothing : Values ℕ
nothing i = whole 0

-- a linear operator keeps nothing
keeps-nothing : (T : Values ℕ → Values ℕ) → IsLinear T → T nothing ≡ nothing
keeps-nothing T linear =
    ap T (fun_ext (λ i. sym (zero-mul (whole 0)))) ∙ linear.scales (whole 0) nothing ∙ fun_ext (λ i. zero-mul (T nothing i))

module _ (l : LoopValue) (n : ℕ) where
  abbrev us : List Subsystem
  us = l.subsystems

  linear : LinearLaw l.subsystems
  linear = linear_laws l.subsystems

  beats-linear : (t : ℕ) → IsLinear (beats_list l.subsystems n t)
  beats-linear t = times-linear (beat_list l.subsystems n (ratio t (beats_of l.subsystems t))) (linear.beat n (ratio t (beats_of l.subsystems t))) (beats_of l.subsystems t)

  beats-nothing : (t : ℕ) → beats_list l.subsystems n t nothing ≡ nothing
  beats-nothing t = keeps-nothing (beats_list l.subsystems n t) (beats-linear t)

  tests-nothing : (ts : List ChannelTest) → test_list l.subsystems ts nothing ≡ nothing
  tests-nothing ts = keeps-nothing (test_list l.subsystems ts) (linear.tests ts)

  -- what is counted over a schedule in which one phase counts, where tests and the end count nothing
  module _ (f : Values ℕ) where
    abbrev counted : List Item → Values ℕ
    counted = counted_list l.subsystems n f (λ ts i. whole 0) (λ i. whole 0)

    at-tests : (ts : List ChannelTest) (rest : List Item) → counted (Tests ts ∷ rest) ≡ test_list l.subsystems ts (counted rest)
    unfolding counted_list
    at-tests ts rest = fun_ext (λ i. add-zero _)

    at-end : counted [] ≡ nothing
    unfolding counted_list
    at-end = refl

    idle : (t : ℕ) (rest : List Item) → counted (beats_items l.subsystems false t ++ rest) ≡ beats_list l.subsystems n t (counted rest)
    idle t rest = phase-idle l.subsystems n f (λ ts i. whole 0) (λ i. whole 0) t rest

    idle-last : (t : ℕ) → counted (beats_items l.subsystems false t) ≡ nothing
    idle-last t = ap counted (sym (append-nil (beats_items l.subsystems false t))) ∙ idle t [] ∙ ap (beats_list l.subsystems n t) at-end ∙ beats-nothing t

    busy : (t : ℕ) (rest : List Item) → counted rest ≡ nothing
        → counted (beats_items l.subsystems true t ++ rest) ≡ (λ i. whole t *ℚ beats_mean_list l.subsystems n t f i)
    busy t rest e =
        let with_mean : Values ℕ → Values ℕ = λ g i. g i +ℚ whole t *ℚ beats_mean_list l.subsystems n t f i in
        phase-counted l.subsystems n f (λ ts i. whole 0) (λ i. whole 0) t rest
        ∙ ap with_mean (ap (beats_list l.subsystems n t) e ∙ beats-nothing t)
        ∙ fun_ext (λ i. zero-add _)

    busy-last : (t : ℕ) → counted (beats_items l.subsystems true t) ≡ (λ i. whole t *ℚ beats_mean_list l.subsystems n t f i)
    busy-last t = ap counted (sym (append-nil (beats_items l.subsystems true t))) ∙ busy t [] at-end

    module _ (p : ℕ) where
      abbrev items : ℕ → List Phase → List Item
      items i phases = items_from l (λ q. q == p) i phases

      -- after the phase that counts
      behind : (i : ℕ) (phases : List Phase) → p < i → counted (items i phases) ≡ nothing
      behind i [] h = at-end
      behind i (phase ∷ []) h = rw (ne_eqb i p (λ e. absurd (omega arith))) (idle-last phase.hours)
      behind i (phase ∷ (next ∷ more)) h = rw (ne_eqb i p (λ e. absurd (omega arith))) (
          idle phase.hours (Tests (tests_at l next.start) ∷ items (suc i) (next ∷ more))
          ∙ ap (beats_list l.subsystems n phase.hours) (at-tests (tests_at l next.start) (items (suc i) (next ∷ more))
          ∙ ap (test_list l.subsystems (tests_at l next.start)) (behind (suc i) (next ∷ more) (omega arith)) ∙ tests-nothing (tests_at l next.start))
          ∙ beats-nothing phase.hours)

      tests-behind : (i : ℕ) (next : Phase) (more : List Phase) → p < i → counted (Tests (tests_at l next.start) ∷ items i (next ∷ more)) ≡ nothing
      tests-behind i next more h =
          at-tests (tests_at l next.start) (items i (next ∷ more)) ∙ ap (test_list l.subsystems (tests_at l next.start)) (behind i (next ∷ more) h) ∙ tests-nothing (tests_at l next.start)

      abbrev own : List Phase → ℕ → ℕ
      own phases k = (get_or phases k no_phase).hours

      -- and from the start of the phases before it
      one_phase : (i k : ℕ) (phases : List Phase) → i + k ≡ p → k < length phases
          → counted (items i phases) ≡ (λ j. whole (own phases k) *ℚ expected_at l n k phases (beats_mean_list l.subsystems n (own phases k) f) j)
      unfolding expected_at
      one_phase i k [] e h = absurd (omega arith)
      one_phase i zero (phase ∷ []) e h = elim (eqb_tells i p) [
        | inl t ↦ rw (t.0) (busy-last phase.hours)
        | inr t ↦ absurd (t.1 (omega arith))
      ]
      one_phase i zero (phase ∷ (next ∷ more)) e h = elim (eqb_tells i p) [
        | inl t ↦ rw (t.0) (busy phase.hours _ (tests-behind (suc i) next more (omega arith)))
        | inr t ↦ absurd (t.1 (omega arith))
      ]
      one_phase i (suc k) (phase ∷ []) e h = absurd (omega arith)
      one_phase i (suc k) (phase ∷ (next ∷ more)) e h = rw (ne_eqb i p (λ g. absurd (omega arith))) (
          let later : Values ℕ = expected_at l n k (next ∷ more) (beats_mean_list l.subsystems n (own (next ∷ more) k) f) in
          let c : Fraction = whole (own (next ∷ more) k) in
          let ts : List ChannelTest = tests_at l next.start in
          idle phase.hours (Tests ts ∷ items (suc i) (next ∷ more))
          ∙ ap (beats_list l.subsystems n phase.hours) (at-tests ts (items (suc i) (next ∷ more))
          ∙ ap (test_list l.subsystems ts) (one_phase (suc i) k (next ∷ more) (omega arith) (omega arith))
          ∙ (linear.tests ts).scales c later)
          ∙ (beats-linear phase.hours).scales c (test_list l.subsystems ts later))

    pub phase-counts : (p : ℕ) → p < length (phases_of l)
        → counted (schedule_of_phase l p) ≡ (λ j. whole (get_or (phases_of l) p no_phase).hours
        *ℚ expected_at l n p (phases_of l) (beats_mean_list l.subsystems n (get_or (phases_of l) p no_phase).hours f) j)
    unfolding schedule_of_phase
    phase-counts p h = one_phase p 0 p (phases_of l) (omega arith) h

-- the chance at the end of a phase
module _ (l : LoopValue) (n : ℕ) where
  none-ticked : (h : Fraction) → tick_list l.subsystems h nothing ≡ nothing
  none-ticked h = keeps-nothing (tick_list l.subsystems h) ((linear_laws l.subsystems).tick h)

  none-beaten : (h : Fraction) (k : ℕ) → times (beat_list l.subsystems (suc n) h) k nothing ≡ nothing
  none-beaten h k = times-constant (beat_list l.subsystems (suc n) h) (whole 0) (keeps-nothing (beat_list l.subsystems (suc n) h) ((linear_laws l.subsystems).beat (suc n) h)) k

  no-mean : (h : Fraction) → mean_list l.subsystems (suc n) h nothing ≡ nothing
  no-mean h = mean-constant (tick_list l.subsystems h) (whole 0) (none-ticked h) (suc n) n refl

  no-means : (t i : ℕ) → beats_mean_list l.subsystems (suc n) t nothing i ≡ whole 0
  no-means t i =
      let k : ℕ = beats_of l.subsystems t in
      let h : Fraction = ratio t k in
      ap (λ x. x *ℚ inverse (whole k))
      (ap (λ (g : ℕ → Fraction). total_below k g) (fun_ext (λ j. ap (λ (m : Values ℕ). times (beat_list l.subsystems (suc n) h) j m i) (no-mean h) ∙ ap (λ (m : Values ℕ). m i) (none-beaten h j)))
      ∙ below-constant k (whole 0) ∙ mul-zero (whole k)) ∙ zero-mul _

  module _ (last : Values ℕ) where
    abbrev at_last : List Item → Values ℕ
    at_last = counted_list l.subsystems (suc n) nothing (λ ts i. whole 0) last

    over : (t : ℕ) (rest : List Item) → at_last (beats_items l.subsystems true t ++ rest) ≡ beats_list l.subsystems (suc n) t (at_last rest)
    over t rest =
        phase-counted l.subsystems (suc n) nothing (λ ts i. whole 0) last t rest
        ∙ fun_ext (λ i. ap (λ x. beats_list l.subsystems (suc n) t (at_last rest) i +ℚ whole t *ℚ x) (no-means t i) ∙ ap (λ x. beats_list l.subsystems (suc n) t (at_last rest) i +ℚ x) (mul-zero (whole t)) ∙ add-zero _)

    last-tests : (ts : List ChannelTest) (rest : List Item) → at_last (Tests ts ∷ rest) ≡ test_list l.subsystems ts (at_last rest)
    unfolding counted_list
    last-tests ts rest = fun_ext (λ i. add-zero _)

    last-none : at_last [] ≡ last
    unfolding counted_list
    last-none = refl

    until-phase : (k : ℕ) (phases : List Phase) → k < length phases
        → at_last (items_until l k phases) ≡ expected_at l (suc n) k phases (beats_list l.subsystems (suc n) (get_or phases k no_phase).hours last)
    unfolding expected_at
    until-phase k [] h = absurd (omega arith)
    until-phase zero (phase ∷ more) h =
        ap at_last (sym (append-nil (beats_items l.subsystems true phase.hours))) ∙ over phase.hours [] ∙ ap (beats_list l.subsystems (suc n) phase.hours) last-none
    until-phase (suc k) (phase ∷ []) h = absurd (omega arith)
    until-phase (suc k) (phase ∷ (next ∷ more)) h =
        over phase.hours (Tests (tests_at l next.start) ∷ items_until l k (next ∷ more))
        ∙ ap (beats_list l.subsystems (suc n) phase.hours) (last-tests (tests_at l next.start) (items_until l k (next ∷ more))
        ∙ ap (test_list l.subsystems (tests_at l next.start)) (until-phase k (next ∷ more) (omega arith)))

    pub until-counts : (p : ℕ) → p < length (phases_of l)
        → at_last (schedule_until l p) ≡ expected_at l (suc n) p (phases_of l) (beats_list l.subsystems (suc n) (get_or (phases_of l) p no_phase).hours last)
    unfolding schedule_until
    until-counts p h = until-phase p (phases_of l) h

-- both modes at the end count nothing before it
pub down-at-end : (us : List Subsystem) (n : ℕ) (items : List Item) → pay_list us n AtEnd items ≡ counted_list us n nothing (λ ts i. whole 0) (last_list us AtEnd) items
unfolding payoff_of passing_list
down-at-end us n items = pay-counted us n AtEnd items

pub up-at-end : (us : List Subsystem) (n : ℕ) (items : List Item) → pay_list us n UpAtEnd items ≡ counted_list us n nothing (λ ts i. whole 0) (last_list us UpAtEnd) items
unfolding payoff_of passing_list
up-at-end us n items = pay-counted us n UpAtEnd items
