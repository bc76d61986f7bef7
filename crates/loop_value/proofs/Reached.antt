-- From one phase of a mission to the next, and over the last one.
use Rattle.std.proofs.Common.{◌≡◌, ℕ, suc, ◌+◌, ◌-◌, ◌*◌, ◌^◌, ◌<◌, ◌≤◌, List, [], length, sum, get_or, ap, ◌∙◌, arith}
use Rattle.std.specs.Prelude.{map, All}
use Rattle.std.proofs.Math.Nat.{mul-le-mul_right}
use Rattle.std.proofs.lemmas.List.{get_or-map}
use Rattle.std.proofs.lemmas.List.Sums.{get_or-le-sum_by}
use Rattle.sil_fraction.specs.Fraction.{◌-ℚ◌, ◌≤ℚ◌, whole}
use Rattle.sil_model.specs.Series.{Values}
use Rattle.sil_model.specs.Budget.{beat_loss_of, test_loss_of, group_tests_in, group_tests_of}
use Rattle.sil_model.specs.Calendar.{Phase, phases_of, test_hours_of, tests_at, beats_of}
use Rattle.sil_model.specs.Figures.{no_phase}
use Rattle.sil_model.specs.LoopValue.{LoopValue, IsValid}
use Rattle.sil_model.specs.Sizes.{states_of, all_beats_of}
use Rattle.test_calendar.specs.GroupTests.{group_tests_at, spread_over}
use Rattle.test_calendar.specs.declared.groups.GroupTest.{GroupTest}
use Rattle.schedule_laws.proofs.PhasesOfLoop.{length-phases_of}
use Rattle.lumped_laws.specs.ValueLists.{test_list, passing}
use Rattle.vector_laws.specs.Vectors.{weigh}
use Rattle.test_matrix.specs.HourTests.{AreTestsOf, Exist}
use Rattle.test_matrix.proofs.HourTests.{after_phase}
use Rattle.mission_laws.specs.Losses.{hours_until, beats_until, group_tests_until, LosesInPhase, LosesAtTests, HasLostInAll}
use Rattle.mission_laws.specs.Missions.{HasCounted}
use Rattle.mission_laws.specs.UnderWay.{PassesPhase, PassesTests, IsUnderWay}
use Rattle.mission_laws.proofs.Losses.{loses_next, loses_last, group_tests-more, group_tests-all, beats-more, beats-all}
use Rattle.mission_laws.proofs.UnderWay.{next_phase, last_phase}
use Rattle.mission_laws.proofs.Arrived.{arrival_laws}
use Rattle.loop_value.specs.Mission.{HasReached, greatest_of}
use Rattle.loop_value.proofs.GroupTestCounts.{group_tests-count}
use Rattle.loop_value.proofs.Rooms.{hours-within}

-- where a phase of the plan starts
pub start-at : (ps : List Phase) (l : LoopValue) (p start : ℕ) → start ≡ (get_or ps p no_phase).start → ps ≡ phases_of l → start ≡ (get_or (phases_of l) p no_phase).start
start-at ps l p start e same = rw same at e

-- the dwell has room for the hours of a phase
pub roomy : (l : LoopValue) → IsValid l → (p hours : ℕ) (d : Phase) → p < length (phases_of l) → hours ≡ (get_or (phases_of l) p d).hours
    → (dwell : List ℕ) → sum dwell ≤ hours_until l p * 2 ^ 48 → All (λ x. x + hours * 2 ^ 48 ≤ 350_400 * 2 ^ 48) dwell
roomy l valid p hours d within e dwell mass = λ k z h.
    omega (
      arith,
      get_or-le-sum_by (λ (n : ℕ). n) dwell k z h,
      mass,
      e,
      valid.mission.below,
      mul-le-mul_right (2 ^ 48) (hours-within l p d within),
    )

-- the group tests after a phase that is not the last
module _ (l : LoopValue) (p : ℕ) (more : suc p < length (phases_of l)) (ts : List GroupTest)
    (are_tests : ts ≡ get_or (map (group_tests_at l) (test_hours_of l)) p []) where
  few : p < length (test_hours_of l)
  few = omega (arith, length-phases_of l)

  stands : AreTestsOf l.subsystems ts (tests_at l (get_or (phases_of l) (suc p) no_phase).start)
  stands = rw are_tests (after_phase l p few)

  pub exist_tests : Exist l.subsystems ts
  exist_tests = stands.exist

  pub counted_tests : length ts ≡ group_tests_in l (get_or (test_hours_of l) p 0)
  counted_tests = ap (λ (xs : List GroupTest). length xs) (are_tests ∙ get_or-map (group_tests_at l) (test_hours_of l) p 0 [] few) ∙ group_tests-count l (get_or (test_hours_of l) p 0)

-- such a phase, and the tests at its end
module _ (l : LoopValue) (order p : ℕ) (more : suc p < length (phases_of l)) (least most lo hi hours : ℕ) (dwell v dwell' v' w : List ℕ) (ts : List GroupTest)
    (is_hours : hours ≡ (get_or (phases_of l) p no_phase).hours) (before : HasReached l order p dwell v least most)
    (phase : PassesPhase l.subsystems order hours (beats_of l.subsystems hours) v v' dwell dwell')
    (losses : LosesInPhase (beats_of l.subsystems hours * beat_loss_of l.subsystems order) hours (states_of l.subsystems) v v' dwell dwell')
    (are_tests : ts ≡ get_or (map (group_tests_at l) (test_hours_of l)) p []) where
  module _ (kept : sum w ≤ sum v') (ordered : lo ≤ hi) (at_most_one : hi ≤ 2 ^ 48) where
    pub reached_next : ((f : Values ℕ) → weigh w f ≤ℚ weigh v' (test_list l.subsystems (spread_over l.subsystems ts) f))
        → whole lo ≤ℚ weigh v' (passing l.subsystems (spread_over l.subsystems ts))
        → whole (2 ^ 48 - hi) ≤ℚ weigh v' (λ i. whole 1 -ℚ passing l.subsystems (spread_over l.subsystems ts) i)
        → 2 ^ 48 - sum w ≤ 2 ^ 48 - sum v' + length ts * (2 * (states_of l.subsystems + 32))
        → hi - lo ≤ 2 ^ 48 - sum w
        → HasReached l order (suc p) dwell' w (least + lo) (most + hi)
    unfolding test_loss_of
    reached_next ends pass stay loss width =
        let small : sum v' ≤ 2 ^ 48 = omega (arith, losses.mass, before.lost.mass) in
        let hour : PassesTests l.subsystems (tests_at l (get_or (phases_of l) (suc p) no_phase).start) v' w lo (2 ^ 48 - hi) = record {
          ends = rw (stands l p more ts are_tests).channels at ends;
          pass = rw (stands l p more ts are_tests).channels at pass;
          stay = rw (stands l p more ts are_tests).channels at stay;
        } in
        let lost : LosesAtTests (group_tests_in l (get_or (test_hours_of l) p 0) * (2 * (states_of l.subsystems + 32))) v' w lo hi = record {
          mass = kept;
          lack = rw (← counted_tests l p more ts are_tests) (omega (arith, loss, small, kept));
          ordered = ordered;
          width = omega (arith, width, ordered, kept, small);
        } in
        let way : IsUnderWay l order (greatest_of l) (suc p) dwell' w (least + lo) ((p * 2 ^ 48 - most) + (2 ^ 48 - hi)) =
        next_phase l order (greatest_of l) p no_phase dwell v dwell' v' least (p * 2 ^ 48 - most) before.under_way (rw is_hours at phase) more w lo (2 ^ 48 - hi) hour in
        let stayed : (p * 2 ^ 48 - most) + (2 ^ 48 - hi) ≡ suc p * 2 ^ 48 - (most + hi) = omega (arith, before.few, at_most_one) in
        let one : p + 1 ≡ suc p = omega arith in
        record {
          under_way = rw stayed at way;
          lost = rw one at (loses_next l order p no_phase (omega (arith, more)) dwell v dwell' v' least most before.lost (rw is_hours at losses) w lo hi
              (group_tests_in l (get_or (test_hours_of l) p 0)) (group_tests-more l p 0 (few l p more ts are_tests)) lost);
          few = omega (arith, before.few, at_most_one);
          arrived = (arrival_laws l).next order p v v' w more before.arrived (rw is_hours at phase).ends hour.ends;
        }

-- the last phase
module _ (l : LoopValue) (order p : ℕ) (end : suc p ≡ length (phases_of l)) (least most hours : ℕ) (dwell v dwell' v' : List ℕ)
    (is_hours : hours ≡ (get_or (phases_of l) p no_phase).hours) (before : HasReached l order p dwell v least most)
    (phase : PassesPhase l.subsystems order hours (beats_of l.subsystems hours) v v' dwell dwell')
    (losses : LosesInPhase (beats_of l.subsystems hours * beat_loss_of l.subsystems order) hours (states_of l.subsystems) v v' dwell dwell') where
  -- as many phases are over as there are test hours
  hours_over : p ≡ length (test_hours_of l)
  hours_over = omega (arith, length-phases_of l)

  pub counted_last : (n : ℕ) → order ≤ n → HasCounted l (greatest_of l) n dwell' least (length (test_hours_of l) * 2 ^ 48 - most)
  counted_last = rw (← hours_over) (last_phase l order (greatest_of l) p no_phase dwell v dwell' v' least (p * 2 ^ 48 - most) before.under_way (rw is_hours at phase) end)

  pub lost_last : HasLostInAll l order dwell' least most
  lost_last = loses_last l order p no_phase end dwell v dwell' v' least most before.lost (rw is_hours at losses)

  pub few_last : most ≤ length (test_hours_of l) * 2 ^ 48
  few_last = rw (← hours_over) before.few

  pub products_last : (a b : ℕ) → beats_until l p * a + group_tests_until l p * b + beats_of l.subsystems hours * a ≡ all_beats_of l * a + group_tests_of l * b
  products_last a b =
      let one : p + 1 ≡ length (phases_of l) = omega arith in
      omega (
        arith,
        ap (λ n. n * a) (beats-more l p no_phase (omega arith)),
        ap (λ n. n * a) (ap (beats_until l) one ∙ beats-all l),
        ap (λ h. beats_of l.subsystems h * a) is_hours,
        ap (λ n. n * b) (group_tests-all l p (omega (arith, hours_over))),
      )
