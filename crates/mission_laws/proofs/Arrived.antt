-- A vector stays below what is expected, from the start of one phase to that of the next.
use Rattle.std.proofs.Common.{◌≡◌, ℕ, zero, suc, ◌+◌, ◌*◌, ◌^◌, ◌<◌, ◌≤◌, List, [], ◌∷◌, length, get_or, refl, sym, ap, arith}
use Rattle.std.specs.Prelude.{sum, sum_by}
use Rattle.std.proofs.Math.Nat.{mul-le-mul_right}
use Rattle.std.proofs.lemmas.List.Sums.{sum_by-take-le}
use Rattle.sil_fraction.specs.Fraction.{◌*ℚ◌, whole}
use Rattle.sil_fraction.proofs.Laws.{le_trans, le_of_same}
use Rattle.sil_model.specs.Budget.{beat_loss_of, test_loss_of, budget_of, group_tests_in, group_tests_of}
use Rattle.sil_model.specs.Series.{Values}
use Rattle.sil_model.specs.Calendar.{Phase, phases_of, test_hours_of, tests_at, beats_of}
use Rattle.sil_model.specs.Figures.{no_phase}
use Rattle.sil_model.specs.LoopValue.{LoopValue}
use Rattle.sil_model.specs.Sizes.{states_of, all_beats_of}
use Rattle.lumped_laws.specs.ValueLists.{test_list}
use Rattle.vector_laws.specs.Vectors.{weigh}
use Rattle.mission_laws.specs.Losses.{beats_until, lost_until}
use Rattle.mission_laws.proofs.Losses.{beats-more}
use Rattle.mission_laws.specs.Arrived.{beats_list, beats_mean_list, expected_at, HasArrived}
use Rattle.mission_laws.specs.PhaseLaws.{phase_hours, PassesBeats, HasPassed, ArrivalLaw}

module _ (l : LoopValue) (n : ℕ) where
  -- one phase more, and the tests after it
  expected-next : (p : ℕ) (phases : List Phase) (f : Values ℕ) → suc p < length phases
      → expected_at l n (suc p) phases f
      ≡ expected_at l n p phases (beats_list l.subsystems n (get_or phases p no_phase).hours (test_list l.subsystems (tests_at l (get_or phases (suc p) no_phase).start) f))
  unfolding expected_at
  expected-next p [] f h = absurd (omega arith)
  expected-next p (phase ∷ []) f h = absurd (omega arith)
  expected-next zero (phase ∷ (next ∷ more)) f h = refl
  expected-next (suc p) (phase ∷ (next ∷ more)) f h =
      ap (λ (g : Values ℕ). beats_list l.subsystems n phase.hours (test_list l.subsystems (tests_at l next.start) g)) (expected-next p (next ∷ more) f (omega arith))

module _ (l : LoopValue) where
  arrived-first : (order : ℕ) (v : List ℕ) → ((f : Values ℕ) → weigh v f ≡ whole (2 ^ 48) *ℚ f 0) → HasArrived l order 0 v
  unfolding expected_at
  arrived-first order v first n o f = le_of_same _ _ (first f)

  -- what was lost up to the end of a phase, and at its mean
  module _ (order p : ℕ) (within : p < length (phases_of l)) where
    lost-le : lost_until l order p + beats_of l.subsystems (phase_hours l p) * beat_loss_of l.subsystems order + states_of l.subsystems ≤ budget_of l order
    unfolding lost_until budget_of all_beats_of group_tests_of
    lost-le =
        let one : beats_until l p + beats_of l.subsystems (phase_hours l p) ≤ sum_by (λ (q : Phase). beats_of l.subsystems q.hours) (phases_of l) =
        omega (arith, beats-more l p no_phase within, sum_by-take-le (λ (q : Phase). beats_of l.subsystems q.hours) (phases_of l) (p + 1)) in
        omega (
          arith,
          mul-le-mul_right (beat_loss_of l.subsystems order) one,
          mul-le-mul_right (test_loss_of l.subsystems) (sum_by-take-le (group_tests_in l) (test_hours_of l) p),
        )

  arrived-over : (order p : ℕ) (v mean end : List ℕ) → p < length (phases_of l) → HasArrived l order p v → sum v ≤ 2 ^ 48
      → 2 ^ 48 ≤ sum v + lost_until l order p → PassesBeats l.subsystems order (phase_hours l p) v mean end → HasPassed l order p mean end
  arrived-over order p v mean end within here mass lost beats = record {
    means = λ n o f. le_trans _ _ _ (beats.means n o f) (here n o (beats_mean_list l.subsystems n (phase_hours l p) f));
    ends = λ n o f. le_trans _ _ _ (beats.ends n o f) (here n o (beats_list l.subsystems n (phase_hours l p) f));
    mean_mass = omega (arith, beats.mean_mass, mass);
    end_mass = omega (arith, beats.end_mass, mass);
    mean_lack = omega (arith, lost, lost-le order p within, beats.mean_lack);
    end_lack = omega (arith, lost, lost-le order p within, beats.end_lack);
  }

  pub arrival_laws : ArrivalLaw l
  arrival_laws = record {
    first = arrived-first;
    over = arrived-over;
    next = λ order p v v' w more here ends passes n o f.
        let after : Values ℕ = test_list l.subsystems (tests_at l (get_or (phases_of l) (suc p) no_phase).start) f in
        le_trans _ _ _ (passes f) (le_trans _ _ _ (ends n o after) (le_trans _ _ _ (here n o (beats_list l.subsystems n (get_or (phases_of l) p no_phase).hours after))
        (le_of_same _ _ (ap (λ (g : Values ℕ). whole (2 ^ 48) *ℚ g 0) (sym (expected-next l n p (phases_of l) f more))))));
  }
