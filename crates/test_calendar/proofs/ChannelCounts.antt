-- The number of channel tests, counted by the test plans.
use Rattle.std.proofs.Common.{◌≡◌, ℕ, zero, suc, ◌+◌, ◌-◌, ◌*◌, ◌%◌, ◌<◌, List, [], ◌∷◌, length, refl, sym, ap, ◌∙◌, arith, inl, inr, length-append}
use Rattle.std.specs.Prelude.{All, Bool, true, false, ◌&&◌, cond, Option, Some, None, sum_by, nat_le, ◌==◌}
use Rattle.std.proofs.lemmas.Bool.{le-leb, lt-leb, lt-ltb, cases_lt}
use Rattle.std.proofs.lemmas.Nat.{div-mul-add}
use Rattle.std.proofs.lemmas.List.Sums.{sum_by-cons}
use Rattle.std.proofs.lemmas.List.Elements.{All-head, All-tail}
use Rattle.sil_fraction.specs.Fraction.{ratio}
use Rattle.sil_fraction.specs.Sum.{sum_below}
use Rattle.sil_model.specs.declared.parts.Subsystem.{Subsystem}
use Rattle.sil_model.specs.declared.parts.TestPlan.{TestPlan}
use Rattle.sil_model.specs.LoopValue.{LoopValue, IsValid, IsSubsystemInRange}
use Rattle.sil_model.specs.Calendar.{ChannelTest, is_full, test_of, tests_of, tests_from, tests_at, upto, ceiling, first_test}
use Rattle.sil_model.specs.Sizes.{channel_tests_of}
use Rattle.test_calendar.specs.Counts.{channel_count, channels_count}
use Rattle.test_calendar.proofs.Ceiling.{ceiling-next, one_if}

-- the tests of one plan below an hour
tests_below : (first every m : ℕ) → 0 < every → sum_below m (λ t. one_if (nat_le first t && (t - first) % every == 0)) ≡ ceiling (m - first) every
unfolding sum_below
tests_below first every zero h =
    let e : 0 - first + (every - 1) ≡ 0 * every + (every - 1) = omega arith in
    let l : every - 1 < every = omega arith in
    rw (e, div-mul-add 0 every (every - 1) l) refl
tests_below first every (suc m) h = elim (cases_lt m first) [
  | inl l ↦
      let e : suc m - first ≡ m - first = omega arith in
      rw (tests_below first every m h, lt-leb first m l, e) (omega arith)
  | inr l ↦
      let e : suc m - first ≡ suc (m - first) = omega arith in
      rw (tests_below first every m h, le-leb first m l, e) (sym (ceiling-next (m - first) every h))
]

sum-add : (n : ℕ) (f g : ℕ → ℕ) → sum_below n (λ k. f k + g k) ≡ sum_below n f + sum_below n g
unfolding sum_below
sum-add zero f g = refl
sum-add (suc n) f g = omega (arith, sum-add n f g)

sum-none : (n : ℕ) → sum_below n (λ k. 0) ≡ 0
unfolding sum_below
sum-none zero = refl
sum-none (suc n) = omega (arith, sum-none n)

sum_same : (m : ℕ) (f g : ℕ → ℕ) → ((k : ℕ) → k < m → f k ≡ g k) → sum_below m f ≡ sum_below m g
unfolding sum_below
sum_same zero f g h = refl
sum_same (suc m) f g h = cc (sum_same m f g (λ k l. h k (omega arith)), h m (omega arith))

-- a sum over the hours from a on, one more at its end
upto-last : (f : ℕ → ℕ) (a n : ℕ) → sum_by f (upto a (suc n)) ≡ sum_by f (upto a n) + f (a + n)
upto-last f a zero = let e : a + 0 ≡ a = omega arith in rw (e, sum_by-cons) (omega arith)
upto-last f a (suc n) =
    let e : a + suc n ≡ suc a + n = omega arith in
    omega (arith, sum_by-cons f a (upto (suc a) (suc n)), sum_by-cons f a (upto (suc a) n), upto-last f (suc a) n, ap f e)

sum_upto : (f : ℕ → ℕ) (n : ℕ) → sum_by f (upto 0 n) ≡ sum_below n f
unfolding sum_below
sum_upto f zero = refl
sum_upto f (suc n) = let e : 0 + n ≡ n = omega arith in omega (arith, upto-last f 0 n, sum_upto f n, ap f e)

module _ (mission : ℕ) (u : Subsystem) where
  -- one channel
  channel : (p : TestPlan) (i c : ℕ) → 0 < p.every → sum_below mission (λ t. length (test_of mission t u (Some p) i c)) ≡ channel_count mission p i
  channel p i c h = sum_same mission _ _ (λ t l. rw (lt-ltb t mission l) (go t (nat_le (first_test p i) t && (t - first_test p i) % p.every == 0))) ∙ tests_below (first_test p i) p.every mission h
    where
      go : (t : ℕ) (b : Bool) → length {A = ChannelTest} (cond b (record { channel = c; full = is_full mission t p i; fault = ratio u.figures.restart_fault 1_000_000 } ∷ []) []) ≡ one_if b
      go t true = refl
      go t false = refl

  untested : u.test ≡ None → (t n i c : ℕ) → tests_of mission t u n i c ≡ []
  untested e t zero i c = refl
  untested e t (suc n) i c = rw (e, untested e t n (suc i) (suc c)) refl

  channels : (p : TestPlan) → u.test ≡ Some p → 0 < p.every → (n i c : ℕ) → sum_below mission (λ t. length (tests_of mission t u n i c)) ≡ channels_count mission (Some p) i n
  channels p e h zero i c = sum-none mission
  channels p e h (suc n) i c =
      sum_same mission _ (λ t. length (test_of mission t u (Some p) i c) + length (tests_of mission t u n (suc i) (suc c))) (λ t l. length-append _ _ ∙ ap (λ o. length (test_of mission t u o i c) + length (tests_of mission t u n (suc i) (suc c))) e)
      ∙ sum-add mission (λ t. length (test_of mission t u (Some p) i c)) (λ t. length (tests_of mission t u n (suc i) (suc c)))
      ∙ omega (arith, channel p i c h, channels p e h n (suc i) (suc c))

  subsystem : IsSubsystemInRange u → (c : ℕ) → sum_below mission (λ t. length (tests_of mission t u u.vote.n 0 c)) ≡ channels_count mission u.test 0 u.vote.n
  subsystem v c = go u.test refl
    where
      go : (o : Option TestPlan) → u.test ≡ o → sum_below mission (λ t. length (tests_of mission t u u.vote.n 0 c)) ≡ channels_count mission o 0 u.vote.n
      go None e = sum_same mission _ (λ t. 0) (λ t l. ap length (untested e t u.vote.n 0 c)) ∙ sum-none mission
      go (Some p) e = channels p e (v.test p e).every.above u.vote.n 0 c

-- the tests of all channels of a subsystem
abbrev pub tests_in : ℕ → Subsystem → ℕ
tests_in mission u = channels_count mission u.test 0 u.vote.n

all : (mission c : ℕ) (us : List Subsystem) → All IsSubsystemInRange us → sum_below mission (λ t. length (tests_from mission t c us)) ≡ sum_by (tests_in mission) us
all mission c [] v = sum-none mission
all mission c (u ∷ us) v =
    sum_same mission _ (λ t. length (tests_of mission t u u.vote.n 0 c) + length (tests_from mission t (c + u.vote.n) us)) (λ t l. length-append _ _)
    ∙ sum-add mission (λ t. length (tests_of mission t u u.vote.n 0 c)) (λ t. length (tests_from mission t (c + u.vote.n) us))
    ∙ omega (
      arith,
      subsystem mission u (All-head IsSubsystemInRange u us v) c,
      all mission (c + u.vote.n) us (All-tail IsSubsystemInRange u us v),
      sum_by-cons (tests_in mission) u us,
    )

-- the number of channel tests, without a walk over the hours
pub channel_tests_as : (l : LoopValue) → IsValid l → channel_tests_of l ≡ sum_by (tests_in l.mission) l.subsystems
unfolding channel_tests_of tests_at
channel_tests_as l v = sum_upto (λ t. length (tests_from l.mission t 0 l.subsystems)) l.mission ∙ all l.mission 0 l.subsystems v.subsystems
