-- The tests of an hour are its group tests, each spread over the channels of its group.
use Rattle.std.proofs.Common.{◌≡◌, ℕ, zero, suc, ◌+◌, ◌-◌, ◌<◌, List, [], ◌∷◌, ◌++◌, length, get_or, refl, sym, ap, ◌∙◌, arith, append_assoc, append-nil, length-append}
use Rattle.std.specs.Prelude.{Bool, true, false, cond, Option, Some, None, ◌==◌, map}
use Rattle.std.specs.List.{flat_map}
use Rattle.std.proofs.lemmas.Bool.{eqb-true}
use Rattle.std.proofs.lemmas.Grind.{flat_map-append}
use Rattle.std.proofs.lemmas.List.{get_or_append_left, get_or-map, length-map}
use Rattle.std.proofs.Math.Seq.{get_or-append_right}
use Rattle.sil_fraction.specs.Fraction.{ratio, whole}
use Rattle.sil_model.specs.declared.parts.Group.{Group}
use Rattle.sil_model.specs.declared.parts.Subsystem.{Subsystem}
use Rattle.sil_model.specs.declared.parts.TestPlan.{TestPlan}
use Rattle.sil_model.specs.LoopValue.{LoopValue, groups_by_test, single_groups}
use Rattle.sil_model.specs.Calendar.{is_tested, is_full, test_of, tests_of, tests_from, tests_at}
use Rattle.count_laws.specs.GroupChannels.{GroupChannels, channels_from, group_channels_of}
use Rattle.test_calendar.specs.GroupTests.{tests_of_groups, group_tests_from, group_tests_at, tests_of_channels, spread, spread_over}
use Rattle.test_calendar.proofs.TestedGroups.{untested, together}

abbrev none : GroupChannels
none = record { first = 0; size = 0; fault = whole 0 }

abbrev channels_of_group : ℕ → Subsystem → Group → GroupChannels
channels_of_group c u x = record { first = c + x.first_channel; size = x.size; fault = ratio u.figures.restart_fault 1_000_000 }

-- these are the groups' channels, from the number g on
pub record Stand (gs : List GroupChannels) (c : ℕ) (u : Subsystem) (g : ℕ) (xs : List Group) : Type 0 where
  pub at : (k j : ℕ) (d : Group) → k < length xs → g + k ≡ j → get_or gs j none ≡ channels_of_group c u (get_or xs k d)

later : (gs : List GroupChannels) (c : ℕ) (u : Subsystem) (g : ℕ) (x : Group) (xs : List Group) → Stand gs c u g (x ∷ xs) → Stand gs c u (suc g) xs
later gs c u g x xs s = record { at = λ k j d h e. s.at (suc k) j d (omega arith) (omega arith) }

module _ (mission t : ℕ) (gs : List GroupChannels) (c : ℕ) (u : Subsystem) (p : TestPlan) (has : u.test ≡ Some p) where
  one : (x : Group) (g : ℕ) (b full : Bool) → get_or gs g none ≡ channels_of_group c u x
      → flat_map (spread gs) (cond b (record { group = g; full = full } ∷ []) []) ≡ cond b (tests_of_channels full (ratio u.figures.restart_fault 1_000_000) (c + x.first_channel) x.size) []
  one x g true full e = append-nil _ ∙ ap (λ (r : GroupChannels). tests_of_channels full r.fault r.first r.size) e
  one x g false full e = refl

  apart : (n s i g m : ℕ) → c + i ≡ m → Stand gs c u g (single_groups s i n) → flat_map (spread gs) (tests_of_groups mission t (Some p) g (single_groups s i n)) ≡ tests_of mission t u n i m
  apart zero s i g m e st = refl
  apart (suc n) s i g m e st =
      let x : Group = record { subsystem = s; first_channel = i; size = 1 } in
      let here : flat_map (spread gs) (cond (is_tested mission t p i) (record { group = g; full = is_full mission t p i } ∷ []) []) ≡ test_of mission t u (Some p) i m =
      one x g (is_tested mission t p i) (is_full mission t p i) (st.at 0 g x (omega arith) (omega arith))
      ∙ ap (λ k. cond (is_tested mission t p i) (tests_of_channels (is_full mission t p i) (ratio u.figures.restart_fault 1_000_000) k 1) []) e
      in
      flat_map-append (spread gs) (cond (is_tested mission t p i) (record { group = g; full = is_full mission t p i } ∷ []) []) (tests_of_groups mission t (Some p) (suc g) (single_groups s (suc i) n))
      ∙ rw (here, apart n s (suc i) (suc g) (suc m) (omega arith) (later gs c u g x _ st))
      (ap (λ o. test_of mission t u o i m ++ tests_of mission t u n (suc i) (suc m)) (sym has))

  some : (s g : ℕ) → Stand gs c u g (groups_by_test s u.vote.n (Some p)) → flat_map (spread gs) (tests_of_groups mission t (Some p) g (groups_by_test s u.vote.n (Some p))) ≡ tests_of mission t u u.vote.n 0 c
  some s g = go (p.stagger == 0) refl
    where
      go : (b : Bool) → p.stagger == 0 ≡ b → Stand gs c u g (cond b (record { subsystem = s; first_channel = 0; size = u.vote.n } ∷ []) (single_groups s 0 u.vote.n))
          → flat_map (spread gs) (tests_of_groups mission t (Some p) g (cond b (record { subsystem = s; first_channel = 0; size = u.vote.n } ∷ []) (single_groups s 0 u.vote.n)))
          ≡ tests_of mission t u u.vote.n 0 c
      go true e st =
          let x : Group = record { subsystem = s; first_channel = 0; size = u.vote.n } in
          let z : c + 0 ≡ c = omega arith in
          ap (flat_map (spread gs)) (append-nil _)
          ∙ one x g (is_tested mission t p 0) (is_full mission t p 0) (st.at 0 g x (omega arith) (omega arith))
          ∙ rw z (sym (together mission t u p has c (eqb-true p.stagger 0 e)))
      go false e st = apart u.vote.n s 0 g c (omega arith) st

subsystem : (mission t : ℕ) (gs : List GroupChannels) (c : ℕ) (u : Subsystem) (s g : ℕ) (o : Option TestPlan) → u.test ≡ o → Stand gs c u g (groups_by_test s u.vote.n o)
    → flat_map (spread gs) (tests_of_groups mission t o g (groups_by_test s u.vote.n o)) ≡ tests_of mission t u u.vote.n 0 c
subsystem mission t gs c u s g None e st = sym (untested mission t u e u.vote.n 0 c)
subsystem mission t gs c u s g (Some p) e st = some mission t gs c u p e s g st

stands : (before after : List GroupChannels) (c : ℕ) (u : Subsystem) (g : ℕ) (xs : List Group) → length before ≡ g → Stand (before ++ (map (channels_of_group c u) xs ++ after)) c u g xs
stands before after c u g xs e = record {
  at = λ k j d h f.
      let i : j - length before ≡ k = omega arith in
      let a : k < length (map (channels_of_group c u) xs) = omega (arith, length-map xs (channels_of_group c u)) in
      get_or-append_right before (map (channels_of_group c u) xs ++ after) j none (omega arith)
      ∙ rw i (get_or_append_left (map (channels_of_group c u) xs) after none k a ∙ get_or-map (channels_of_group c u) xs k d none h);
}

from : (mission t : ℕ) (gs before : List GroupChannels) (s g c : ℕ) (us : List Subsystem) → length before ≡ g → gs ≡ before ++ channels_from s c us
    → flat_map (spread gs) (group_tests_from mission t s g us) ≡ tests_from mission t c us
from mission t gs before s g c [] e f = refl
from mission t gs before s g c (u ∷ us) e f =
    let xs : List Group = groups_by_test s u.vote.n u.test in
    let own : List GroupChannels = map (channels_of_group c u) xs in
    let st : Stand gs c u g xs = rw f (stands before (channels_from (suc s) (c + u.vote.n) us) c u g xs e) in
    let n : length (before ++ own) ≡ g + length xs = omega (arith, length-append before own, length-map xs (channels_of_group c u)) in
    flat_map-append (spread gs) (tests_of_groups mission t u.test g xs) (group_tests_from mission t (suc s) (g + length xs) us)
    ∙ rw (subsystem mission t gs c u s g u.test refl st, from mission t gs (before ++ own) (suc s) (g + length xs) (c + u.vote.n) us n (f ∙ sym (append_assoc before own _))) refl

-- the tests of channels of an hour are what its group tests stand for
pub spread_at : (l : LoopValue) (t : ℕ) → spread_over l.subsystems (group_tests_at l t) ≡ tests_at l t
unfolding spread_over group_tests_at tests_at group_channels_of
spread_at l t = from l.mission t (channels_from 0 0 l.subsystems) [] 0 0 0 l.subsystems refl refl
