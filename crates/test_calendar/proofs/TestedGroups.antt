-- The tests of an hour: of channels, of groups, and of the groups that are tested.
use Rattle.std.proofs.Common.{◌≡◌, ℕ, zero, suc, ◌+◌, ◌<◌, ◌≤◌, List, [], ◌∷◌, ◌++◌, length, refl, sym, ap, ◌∙◌, arith}
use Rattle.std.specs.Prelude.{All, Bool, true, false, not, ◌&&◌, ◌||◌, cond, Option, Some, None, ◌==◌}
use Rattle.std.specs.List.{list_any, filter_map, cons_option}
use Rattle.std.proofs.lemmas.Bool.{lt-ltb, lt-leb, eqb-true}
use Rattle.std.proofs.lemmas.List.Elements.{All-head, All-tail, filter_map-append}
use Rattle.std.proofs.lemmas.List.Folds.{list_any-append}
use Rattle.sil_fraction.specs.Fraction.{Fraction, ratio}
use Rattle.sil_model.specs.declared.parts.Group.{Group}
use Rattle.sil_model.specs.declared.parts.Subsystem.{Subsystem}
use Rattle.sil_model.specs.declared.parts.TestPlan.{TestPlan}
use Rattle.sil_model.specs.LoopValue.{IsSubsystemInRange, groups_by_test, single_groups}
use Rattle.sil_model.specs.Calendar.{ChannelTest, is_tested, is_full, test_of, tests_of, tests_from, is_empty, first_test}
use Rattle.test_calendar.specs.declared.groups.GroupTest.{GroupTest}
use Rattle.test_calendar.specs.GroupTests.{tests_of_groups, group_tests_from, tests_of_channels}
use Rattle.test_calendar.specs.Repeats.{Repeats}
use Rattle.test_calendar.specs.Plans.{repeats_of, repeats_by_test, repeats_from, repeats_at, is_full_at, test_by}

pub empty-append : {A : Type 0} (xs ys : List A) → is_empty (xs ++ ys) ≡ (is_empty xs && is_empty ys)
empty-append [] ys = refl
empty-append (x ∷ xs) ys = refl

both_empty : {A B : Type 0} (xs xs' : List A) (ys ys' : List B) → is_empty xs ≡ is_empty ys → is_empty xs' ≡ is_empty ys' → is_empty (xs ++ xs') ≡ is_empty (ys ++ ys')
both_empty xs xs' ys ys' a b = empty-append xs xs' ∙ rw (a, b) (sym (empty-append ys ys'))

none_either : (b : Bool) (ts : List ChannelTest) → ts ≡ cond b ts ts
none_either true ts = refl
none_either false ts = refl

one_either : (b : Bool) (t : ChannelTest) (ts : List ChannelTest) → cond b (t ∷ []) [] ++ cond b ts [] ≡ cond b (t ∷ ts) []
one_either true t ts = refl
one_either false t ts = refl

module _ (mission t : ℕ) (u : Subsystem) where
  pub untested : u.test ≡ None → (n i c : ℕ) → tests_of mission t u n i c ≡ []
  untested e zero i c = refl
  untested e (suc n) i c = rw (e, untested e n (suc i) (suc c)) refl

  module _ (p : TestPlan) (has : u.test ≡ Some p) where
    abbrev pub fault : Fraction
    fault = ratio u.figures.restart_fault 1_000_000

    together_from : (n i c : ℕ) → p.stagger ≡ 0 → tests_of mission t u n i c ≡ cond (is_tested mission t p 0) (tests_of_channels (is_full mission t p 0) fault c n) []
    together_from zero i c e = none_either (is_tested mission t p 0) []
    together_from (suc n) i c e =
        let a : first_test p i ≡ first_test p 0 = rw e (omega arith) in
        rw (has, a, together_from n (suc i) (suc c) e) (one_either (is_tested mission t p 0) _ _)

    -- without stagger the channels are tested together
    pub together : (c : ℕ) → p.stagger ≡ 0 → tests_of mission t u u.vote.n 0 c ≡ cond (is_tested mission t p 0) (tests_of_channels (is_full mission t p 0) fault c u.vote.n) []
    together c e = together_from u.vote.n 0 c e

    empty_together : (n s g c : ℕ) → 0 < n → (b full : Bool) → is_empty (cond b (tests_of_channels full fault c n) []) ≡ is_empty {A = GroupTest} (cond b (record { group = g; full = full } ∷ []) [] ++ [])
    empty_together zero s g c h b full = absurd (omega arith)
    empty_together (suc n) s g c h true full = refl
    empty_together (suc n) s g c h false full = refl

    empty_one : (g c : ℕ) (b full full' : Bool) → is_empty {A = ChannelTest} (cond b (record { channel = c; full = full; fault = fault } ∷ []) []) ≡ is_empty {A = GroupTest} (cond b (record { group = g; full = full' } ∷ []) [])
    empty_one g c true full full' = refl
    empty_one g c false full full' = refl

    empty_apart : (n s i g c : ℕ) → is_empty (tests_of mission t u n i c) ≡ is_empty (tests_of_groups mission t (Some p) g (single_groups s i n))
    empty_apart zero s i g c = refl
    empty_apart (suc n) s i g c =
        both_empty (test_of mission t u u.test i c) (tests_of mission t u n (suc i) (suc c)) _ _
        (rw has (empty_one g c (is_tested mission t p i) (is_full mission t p i) (is_full mission t p i)))
        (empty_apart n s (suc i) (suc g) (suc c))

    empty_some : (s g c : ℕ) → 0 < u.vote.n → is_empty (tests_of mission t u u.vote.n 0 c) ≡ is_empty (tests_of_groups mission t (Some p) g (groups_by_test s u.vote.n (Some p)))
    empty_some s g c h = go (p.stagger == 0) refl
      where
        go : (b : Bool) → p.stagger == 0 ≡ b → is_empty (tests_of mission t u u.vote.n 0 c)
            ≡ is_empty (tests_of_groups mission t (Some p) g (cond b (record { subsystem = s; first_channel = 0; size = u.vote.n } ∷ []) (single_groups s 0 u.vote.n)))
        go true e = ap is_empty (together c (eqb-true p.stagger 0 e)) ∙ empty_together u.vote.n s g c h (is_tested mission t p 0) (is_full mission t p 0)
        go false e = empty_apart u.vote.n s 0 g c

  empty_subsystem : (s g c : ℕ) → 0 < u.vote.n → (o : Option TestPlan) → u.test ≡ o → is_empty (tests_of mission t u u.vote.n 0 c) ≡ is_empty (tests_of_groups mission t o g (groups_by_test s u.vote.n o))
  empty_subsystem s g c h None e = ap is_empty (untested e u.vote.n 0 c)
  empty_subsystem s g c h (Some p) e = empty_some p e s g c h

-- an hour has tests of channels where it has tests of groups
pub empty_from : (mission t s g c : ℕ) (us : List Subsystem) → All IsSubsystemInRange us → is_empty (tests_from mission t c us) ≡ is_empty (group_tests_from mission t s g us)
empty_from mission t s g c [] v = refl
empty_from mission t s g c (u ∷ us) v =
    let w = All-head IsSubsystemInRange u us v in
    both_empty (tests_of mission t u u.vote.n 0 c) (tests_from mission t (c + u.vote.n) us) (tests_of_groups mission t u.test g (groups_by_test s u.vote.n u.test)) _
    (empty_subsystem mission t u s g c (omega (arith, w.vote.some, w.vote.suffice)) u.test refl)
    (empty_from mission t (suc s) (g + length (groups_by_test s u.vote.n u.test)) (c + u.vote.n) us (All-tail IsSubsystemInRange u us v))

module _ (mission t : ℕ) (inside : t < mission) where
  one_by : (b full : Bool) (g : ℕ) (xs ys : List GroupTest) → xs ≡ ys → cond b (record { group = g; full = full } ∷ []) [] ++ xs ≡ cons_option (cond b (Some (record { group = g; full = full })) None) ys
  one_by true full g xs ys e = ap (λ zs. record { group = g; full = full } ∷ zs) e
  one_by false full g xs ys e = e

  groups_as : (o : Option TestPlan) (g : ℕ) (xs : List Group) → tests_of_groups mission t o g xs ≡ filter_map (test_by t) (repeats_by_test o g xs)
  groups_as None g xs = refl
  groups_as (Some p) g [] = refl
  groups_as (Some p) g (x ∷ xs) =
      rw (lt-ltb t mission inside)
      (one_by (repeats_at t (repeats_of p g x)) (is_full_at t (repeats_of p g x)) g _ _ (groups_as (Some p) (suc g) xs))

  -- the tests of the groups, each asked by itself
  pub from_as : (s g : ℕ) (us : List Subsystem) → group_tests_from mission t s g us ≡ filter_map (test_by t) (repeats_from s g us)
  from_as s g [] = refl
  from_as s g (u ∷ us) =
      rw (filter_map-append (test_by t) (repeats_by_test u.test g (groups_by_test s u.vote.n u.test)) (repeats_from (suc s) (g + length (groups_by_test s u.vote.n u.test)) us))
      (rw (groups_as u.test g (groups_by_test s u.vote.n u.test), from_as (suc s) (g + length (groups_by_test s u.vote.n u.test)) us) refl)

-- some group is tested where the list of tests is not empty
pub any_empty : (t : ℕ) (rs : List Repeats) → not (is_empty (filter_map (test_by t) rs)) ≡ list_any (repeats_at t) rs
any_empty t [] = refl
any_empty t (r ∷ rs) = go (repeats_at t r) (any_empty t rs)
  where
    go : (b : Bool) → not (is_empty (filter_map (test_by t) rs)) ≡ list_any (repeats_at t) rs → not (is_empty (cons_option (cond b (Some (record { group = r.group; full = is_full_at t r })) None) (filter_map (test_by t) rs))) ≡ (b || list_any (repeats_at t) rs)
    go true e = refl
    go false e = e
