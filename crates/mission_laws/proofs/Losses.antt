-- What is lost phase by phase and test hour by test hour, and what is lost in all.
use Rattle.std.proofs.Common.{◌≡◌, ℕ, suc, ◌+◌, ◌*◌, ◌^◌, ◌<◌, ◌≤◌, List, length, sum, get_or, refl, ap, ◌∙◌, arith}
use Rattle.std.specs.Prelude.{sum_by}
use Rattle.std.proofs.lemmas.List.Sums.{sum_by_more}
use Rattle.std.proofs.Math.Seq.{take-length}
use Rattle.std.proofs.lemmas.List.{take_all}
use Rattle.std.proofs.Math.Nat.{mul-le-mul_left}
use Rattle.sil_model.specs.Budget.{beat_loss_of, test_loss_of, group_tests_in, group_tests_of}
use Rattle.sil_model.specs.Calendar.{Phase, phases_of, test_hours_of, beats_of}
use Rattle.sil_model.specs.LoopValue.{LoopValue}
use Rattle.sil_model.specs.Sizes.{states_of, all_beats_of}
use Rattle.schedule_laws.proofs.PhasesOfLoop.{length-phases_of, phases_of_fill}
use Rattle.mission_laws.specs.Losses.{hours_until, beats_until, group_tests_until, lost_until, lost_in_all, HasLost, HasLostInAll, LosesInPhase, LosesAtTests}

module _ (l : LoopValue) where
  abbrev phase_hours : ℕ → Phase → ℕ
  phase_hours p d = (get_or (phases_of l) p d).hours

  pub hours-more : (p : ℕ) (d : Phase) → p < length (phases_of l) → hours_until l (p + 1) ≡ hours_until l p + phase_hours p d
  hours-more p d h = sum_by_more (λ (q : Phase). q.hours) (phases_of l) p d h

  pub beats-more : (p : ℕ) (d : Phase) → p < length (phases_of l) → beats_until l (p + 1) ≡ beats_until l p + beats_of l.subsystems (phase_hours p d)
  beats-more p d h = sum_by_more (λ (q : Phase). beats_of l.subsystems q.hours) (phases_of l) p d h

  pub group_tests-more : (p d : ℕ) → p < length (test_hours_of l) → group_tests_until l (p + 1) ≡ group_tests_until l p + group_tests_in l (get_or (test_hours_of l) p d)
  group_tests-more p d h = sum_by_more (group_tests_in l) (test_hours_of l) p d h

  pub hours-all : hours_until l (length (phases_of l)) ≡ l.mission
  hours-all = ap (sum_by (λ (q : Phase). q.hours)) (take-length (phases_of l)) ∙ phases_of_fill l

  pub beats-all : beats_until l (length (phases_of l)) ≡ all_beats_of l
  unfolding all_beats_of
  beats-all = ap (sum_by (λ (q : Phase). beats_of l.subsystems q.hours)) (take-length (phases_of l))

  module _ (order : ℕ) where
    -- one phase, and the tests of so many groups after it
    pub lost-more : (p beats tests : ℕ) → beats_until l (p + 1) ≡ beats_until l p + beats → group_tests_until l (p + 1) ≡ group_tests_until l p + tests
        → lost_until l order (p + 1) ≡ lost_until l order p + beats * beat_loss_of l.subsystems order + tests * test_loss_of l.subsystems
    unfolding lost_until
    lost-more p beats tests e g = rw (e, g) (omega arith)

    pub none_lost : (dwell v : List ℕ) → sum dwell ≡ 0 → sum v ≡ 2 ^ 48 → HasLost l order 0 dwell v 0 0
    none_lost dwell v e g = record {
      mass = omega (arith, g);
      lack = omega (arith, g);
      dwell_mass = omega (arith, e);
      dwell_lack = omega arith;
      ordered = omega arith;
      width = omega arith;
    }

    -- in numbers: h hours and t hours more, losses of x before, y by the beats and z by the tests
    dwell_lost : (h t x y z p S P v d d' : ℕ) → h * P ≤ d + h * x + p * S → P ≤ v + x → d + t * v ≤ d' + t * y + S
        → (h + t) * P ≤ d' + (h + t) * (x + y + z) + (p + 1) * S
    dwell_lost h t x y z p S P v d d' before lack more =
        omega (arith, before, mul-le-mul_left t lack, more)

    width_lost : (p x y a b lo hi : ℕ) → a ≤ b → b ≤ a + p * x → hi ≤ lo + (x + y) → b + hi ≤ (a + lo) + (p + 1) * (x + y)
    width_lost p x y a b lo hi o w h = omega (arith, w, h)

    module _ (p : ℕ) (d : Phase) (within : p < length (phases_of l)) (dwell v dwell' v' : List ℕ) (least most : ℕ) (before : HasLost l order p dwell v least most)
        (phase : LosesInPhase (beats_of l.subsystems (phase_hours p d) * beat_loss_of l.subsystems order) (phase_hours p d) (states_of l.subsystems) v v' dwell dwell') where
      abbrev by_beats : ℕ
      by_beats = beats_of l.subsystems (phase_hours p d) * beat_loss_of l.subsystems order

      -- a phase that is not the last, and the tests of so many groups after it
      pub loses_next : (w : List ℕ) (lo hi tests : ℕ) → group_tests_until l (p + 1) ≡ group_tests_until l p + tests
          → LosesAtTests (tests * test_loss_of l.subsystems) v' w lo hi → HasLost l order (p + 1) dwell' w (least + lo) (most + hi)
      loses_next w lo hi tests g hour =
          let e : lost_until l order (p + 1) ≡ lost_until l order p + by_beats + tests * test_loss_of l.subsystems =
          lost-more p (beats_of l.subsystems (phase_hours p d)) tests (beats-more p d within) g in
          let m : hours_until l (p + 1) ≡ hours_until l p + phase_hours p d = hours-more p d within in
          record {
            mass = omega (arith, before.mass, phase.mass, hour.mass);
            lack = rw e (omega (arith, before.lack, phase.lack, hour.lack));
            dwell_mass = rw m (omega (arith, before.dwell_mass, phase.dwell_mass, mul-le-mul_left (phase_hours p d) before.mass));
            dwell_lack = rw (e, m) (dwell_lost (hours_until l p) (phase_hours p d) (lost_until l order p) by_beats (tests * test_loss_of l.subsystems) p (states_of l.subsystems) (2 ^ 48) (sum v) (sum dwell) (sum dwell')
                before.dwell_lack before.lack phase.dwell_lack);
            ordered = omega (arith, before.ordered, hour.ordered);
            width = rw e (omega (
              arith,
              width_lost p (lost_until l order p) (by_beats + tests * test_loss_of l.subsystems) least most lo hi before.ordered before.width
                  (omega (arith, hour.width, hour.lack, phase.lack, before.lack)),
            ));
          }

  pub group_tests-all : (p : ℕ) → length (test_hours_of l) ≤ p → group_tests_until l p ≡ group_tests_of l
  unfolding group_tests_of
  group_tests-all p h = ap (sum_by (group_tests_in l)) (take_all p (test_hours_of l) h)

  module _ (order p : ℕ) (d : Phase) (end : suc p ≡ length (phases_of l)) (dwell v dwell' v' : List ℕ) (least most : ℕ) (before : HasLost l order p dwell v least most)
      (phase : LosesInPhase (beats_of l.subsystems (phase_hours p d) * beat_loss_of l.subsystems order) (phase_hours p d) (states_of l.subsystems) v v' dwell dwell') where
    -- as many phases are over as there are test hours
    last : p ≡ length (test_hours_of l)
    last = omega (arith, length-phases_of l)

    within : p < length (phases_of l)
    within = omega arith

    after : HasLost l order (p + 1) dwell' v' (least + 0) (most + 0)
    after =
        let g : group_tests_until l (p + 1) ≡ group_tests_until l p + 0 =
        omega (arith, group_tests-all (p + 1) (omega (arith, last)), group_tests-all p (omega (arith, last))) in
        loses_next order p d within dwell v dwell' v' least most before phase v' 0 0 0 g (record {
          mass = omega arith;
          lack = omega arith;
          ordered = omega arith;
          width = omega (arith, phase.mass, before.mass);
        })

    in_all : lost_until l order (p + 1) ≡ lost_in_all l order
    unfolding lost_until lost_in_all
    in_all =
        let e : p + 1 ≡ length (phases_of l) = omega arith in
        rw (group_tests-all (p + 1) (omega (arith, last)), e, beats-all) refl

    falls : lost_until l order p ≤ lost_until l order (p + 1)
    falls =
        let g : group_tests_until l (p + 1) ≡ group_tests_until l p + 0 =
        omega (arith, group_tests-all (p + 1) (omega (arith, last)), group_tests-all p (omega (arith, last))) in
        omega (arith, lost-more order p (beats_of l.subsystems (phase_hours p d)) 0 (beats-more p d within) g)

    pub loses_last : HasLostInAll l order dwell' least most
    loses_last =
        let e : p + 1 ≡ length (phases_of l) = omega arith in
        let m : hours_until l (p + 1) ≡ l.mission = ap (hours_until l) e ∙ hours-all in
        record {
          dwell_mass = rw m at after.dwell_mass;
          dwell_lack = rw (m, in_all, e) at after.dwell_lack;
          ordered = before.ordered;
          width = rw (← last, ← in_all) (omega (arith, before.width, mul-le-mul_left p falls));
        }
