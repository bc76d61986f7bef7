-- Test hours with their ranges of group tests, one more at their end.
use Rattle.std.proofs.Common.{◌≡◌, ℕ, zero, suc, ◌+◌, ◌-◌, ◌<◌, ◌≤◌, List, [], ◌∷◌, ◌++◌, length, get_or, take, drop, refl, sym, ap, ◌∙◌, arith, length-append, length-drop, append_assoc}
use Rattle.std.specs.Prelude.{All, Option, map}
use Rattle.std.specs.List.{filter_map, cons_option}
use Rattle.std.proofs.lemmas.List.{take-append-le, map-append, take_more}
use Rattle.std.proofs.Math.Seq.{take-length}
use Rattle.std.proofs.lemmas.List.Elements.{All-head, All-tail, All-append, All-cons, All-nil, filter_map-append}
use Rattle.test_calendar.specs.declared.groups.GroupTest.{GroupTest}
use Rattle.test_calendar.specs.declared.hours.Stop.{Stop}
use Rattle.test_calendar.specs.PlanParts.{tests_of_stop, IsInside}

drop-append : (n : ℕ) (xs ys : List GroupTest) → n ≤ length xs → drop n (xs ++ ys) ≡ drop n xs ++ ys
drop-append zero xs ys h = refl
drop-append (suc n) [] ys h = absurd (omega arith)
drop-append (suc n) (x ∷ xs) ys h = drop-append n xs ys (omega arith)

drop-all : (xs : List GroupTest) → drop (length xs) xs ≡ []
drop-all [] = refl
drop-all (x ∷ xs) = drop-all xs

module _ (tests more : List GroupTest) where
  same_range : (s : Stop) → IsInside tests s → tests_of_stop (tests ++ more) s ≡ tests_of_stop tests s
  same_range s i =
      let a : s.from ≤ length tests = omega (arith, i.ordered, i.within) in
      let b : s.to - s.from ≤ length (drop s.from tests) = omega (arith, length-drop s.from tests, i.ordered, i.within) in
      rw (drop-append s.from tests more a) (take-append-le (s.to - s.from) (drop s.from tests) more b)

  same_ranges : (stops : List Stop) → All (IsInside tests) stops → map (tests_of_stop (tests ++ more)) stops ≡ map (tests_of_stop tests) stops
  same_ranges [] h = refl
  same_ranges (s ∷ stops) h = cc (same_range s (All-head (IsInside tests) s stops h), same_ranges stops (All-tail (IsInside tests) s stops h))

  new_range : (s : Stop) → s.from ≡ length tests → s.to ≡ length (tests ++ more) → tests_of_stop (tests ++ more) s ≡ more
  new_range s a b =
      let n : s.to - s.from ≡ length more = omega (arith, length-append tests more) in
      rw (n, a, drop-append (length tests) tests more (omega arith), drop-all tests) (take-length more)

  module _ (stops : List Stop) (h : All (IsInside tests) stops) (s : Stop) (from : s.from ≡ length tests) (to : s.to ≡ length (tests ++ more)) where
    -- their tests, and those of one more
    pub tests-more : map (tests_of_stop (tests ++ more)) (stops ++ s ∷ []) ≡ map (tests_of_stop tests) stops ++ more ∷ []
    tests-more = map-append (tests_of_stop (tests ++ more)) stops (s ∷ []) ∙ rw (same_ranges stops h, new_range s from to) refl

    pub inside-more : All (IsInside (tests ++ more)) (stops ++ s ∷ [])
    inside-more = All-append (IsInside (tests ++ more)) stops (s ∷ [])
        (λ k d l. record { ordered = (h k d l).ordered; within = omega (arith, (h k d l).within, length-append tests more) })
        (All-cons (IsInside (tests ++ more)) s [] (record { ordered = omega (arith, length-append tests more); within = omega arith }) (All-nil (IsInside (tests ++ more))))

-- one more group is asked
pub asked_more : {X : Type 0} (h : X → Option GroupTest) (xs : List X) (i : ℕ) (x : X) (before found after : List GroupTest) (o : Option GroupTest) → i < length xs → x ≡ get_or xs i x → o ≡ h x
    → found ≡ before ++ filter_map h (take i xs) → after ≡ found ++ cons_option o [] → after ≡ before ++ filter_map h (take (i + 1) xs)
asked_more h xs i x before found after o l is e a b =
    let t : filter_map h (take (i + 1) xs) ≡ filter_map h (take i xs) ++ cons_option o [] =
    rw (take_more xs i x l, ← is, filter_map-append h (take i xs) (x ∷ []), e) refl
    in
    b ∙ rw (a, t) (append_assoc before (filter_map h (take i xs)) (cons_option o []))

abbrev hour_of : Stop → ℕ
hour_of s = s.hour

-- one more test hour, with its tests
pub stop_more : (f : ℕ → List GroupTest) (tests more tests' : List GroupTest) (stops stops' : List Stop) (s : Stop) → stops' ≡ stops ++ s ∷ [] → tests' ≡ tests ++ more → more ≡ f s.hour
    → s.from ≡ length tests → s.to ≡ length tests' → All (IsInside tests) stops → map (tests_of_stop tests) stops ≡ map f (map hour_of stops)
    → (map (tests_of_stop tests') stops' ≡ map f (map hour_of stops')) × All (IsInside tests') stops'
stop_more f tests more tests' stops stops' s a b e from to h same =
    let to' : s.to ≡ length (tests ++ more) = to ∙ ap length b in
    let m : map f (map hour_of (stops ++ s ∷ [])) ≡ map f (map hour_of stops) ++ f s.hour ∷ [] = ap (map f) (map-append hour_of stops (s ∷ [])) ∙ map-append f (map hour_of stops) (s.hour ∷ []) in (
      rw (a, b) (tests-more tests more stops h s from to' ∙ rw (same, e) (sym m)),
      rw (a, b) (inside-more tests more stops h s from to'),
    )
