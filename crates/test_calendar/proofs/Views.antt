-- What the parts of a plan say of its phases and tests, by their numbers.
use Rattle.std.proofs.Common.{◌≡◌, ℕ, zero, suc, ◌+◌, ◌-◌, ◌<◌, ◌≤◌, List, [], ◌∷◌, length, get_or, refl, sym, ap, subst, ◌∙◌, arith}
use Rattle.std.specs.Prelude.{map}
use Rattle.std.proofs.lemmas.List.{length-map, get_or-map}
use Rattle.sil_model.specs.LoopValue.{IsWithin}
use Rattle.sil_model.specs.Calendar.{Phase}
use Rattle.test_calendar.specs.declared.groups.GroupTest.{GroupTest}
use Rattle.test_calendar.specs.declared.hours.Stop.{Stop}
use Rattle.test_calendar.specs.PlanParts.{PlanValue, plan_value, tests_of_stop, IsPlan}
use Rattle.schedule_laws.proofs.PhaseList.{length-phases, start-at, hours-at}

past : {A : Type 0} (xs : List A) (i : ℕ) (d : A) → length xs ≤ i → get_or xs i d ≡ d
past [] i d h = refl
past (x ∷ xs) zero d h = absurd (omega arith)
past (x ∷ xs) (suc i) d h = past xs i d (omega arith)

abbrev hour_of : Stop → ℕ
hour_of s = s.hour

module _ (mission : ℕ) (stops : List Stop) (tests : List GroupTest) (v : PlanValue) (is : plan_value mission stops tests ≡ v) where
  pub length-phases-view : length v.phases ≡ length stops + 1
  length-phases-view = sym (ap (λ (w : PlanValue). length w.phases) is) ∙ omega (arith, length-phases mission 0 (map hour_of stops), length-map stops hour_of)

  pub length-tests-view : length v.tests ≡ length stops
  length-tests-view = sym (ap (λ (w : PlanValue). length w.tests) is) ∙ length-map stops (tests_of_stop tests)

  module _ (i : ℕ) where
    at_most : i < length v.phases → i ≤ length (map hour_of stops)
    at_most h = omega (arith, length-phases-view, length-map stops hour_of)

    pub start-view-0 : (d : Phase) → i < length v.phases → i ≡ 0 → (get_or v.phases i d).start ≡ 0
    start-view-0 d h e =
        sym (ap (λ (w : PlanValue). (get_or w.phases i d).start) is) ∙ start-at mission 0 (map hour_of stops) i d (at_most h) ∙ rw e refl

    pub start-view : (d : Phase) (s : Stop) (j : ℕ) → i < length v.phases → i ≡ suc j → (get_or v.phases i d).start ≡ (get_or stops j s).hour
    start-view d s j h e =
        sym (ap (λ (w : PlanValue). (get_or w.phases i d).start) is)
        ∙ start-at mission 0 (map hour_of stops) i d (at_most h)
        ∙ rw e (get_or-map hour_of stops j s 0 (omega (arith, length-phases-view)))

    hours-view : (d : Phase) → i < length v.phases → (get_or v.phases i d).hours ≡ get_or (map hour_of stops) i mission - (get_or v.phases i d).start
    hours-view d h =
        sym (ap (λ (w : PlanValue). (get_or w.phases i d).hours) is)
        ∙ hours-at mission 0 (map hour_of stops) i d (at_most h)
        ∙ ap (λ n. get_or (map hour_of stops) i mission - n) (sym (start-at mission 0 (map hour_of stops) i d (at_most h)) ∙ ap (λ (w : PlanValue). (get_or w.phases i d).start) is)

    pub within-view : IsPlan mission stops tests → (d : Phase) → i < length v.phases → IsWithin 1 350_400 (get_or v.phases i d).hours
    within-view p d h =
        let P : PlanValue → Type 0 = λ w. IsWithin 1 350_400 (get_or w.phases i d).hours in
        subst P is (p.phases i d (omega (arith, ap (λ (w : PlanValue). length w.phases) is)))

    -- a phase ends at the next test hour
    pub end-view : IsPlan mission stops tests → (d : Phase) (s : Stop) → i < length stops → (get_or stops i s).hour ≡ (get_or v.phases i d).start + (get_or v.phases i d).hours
    end-view p d s h =
        let inside : i < length v.phases = omega (arith, length-phases-view) in
        omega (arith, hours-view d inside, (within-view p d inside).above, get_or-map hour_of stops i s mission h)

    -- the last one ends with the mission
    pub end-view-last : IsPlan mission stops tests → (d : Phase) → length stops ≤ i → i < length v.phases → mission ≡ (get_or v.phases i d).start + (get_or v.phases i d).hours
    end-view-last p d h inside =
        omega (arith, hours-view d inside, (within-view p d inside).above, past (map hour_of stops) i mission (omega (arith, length-map stops hour_of)))

    pub tests-view : (s : Stop) → i < length stops → get_or v.tests i [] ≡ tests_of_stop tests (get_or stops i s)
    tests-view s h = sym (ap (λ (w : PlanValue). get_or w.tests i []) is) ∙ get_or-map (tests_of_stop tests) stops i s [] h

    pub tests-view-last : length stops ≤ i → get_or v.tests i [] ≡ []
    tests-view-last h = past v.tests i [] (omega (arith, length-tests-view))
