-- A mission from its start over its phases and tests to its end.
use Rattle.std.proofs.Common.{◌≡◌, ℕ, zero, suc, ◌+◌, ◌^◌, ◌<◌, ◌≤◌, true, List, [], ◌∷◌, ◌++◌, length, get_or, drop, append-nil, refl, sym, subst, arith}
use Rattle.sil_fraction.specs.Fraction.{Fraction, ◌+ℚ◌, ◌*ℚ◌, ◌≤ℚ◌, whole}
use Rattle.sil_fraction.proofs.Laws.{le_of_same, zero-le}
use Rattle.sil_fraction.proofs.Sums.{add-zero}
use Rattle.sil_model.specs.Series.{Values}
use Rattle.sil_model.specs.Calendar.{ChannelTest, Phase, phases_of, tests_at, beats_of}
use Rattle.sil_model.specs.LoopValue.{LoopValue}
use Rattle.sil_model.specs.Pay.{Item, beats_items, schedule_of}
use Rattle.sil_model.specs.Pay.Item.{Tests}
use Rattle.sil_model.specs.Pay.Mode.{Down, Up}
use Rattle.lumped_laws.specs.PayList.{payoff_list}
use Rattle.vector_laws.specs.Vectors.{weigh}
use Rattle.mission_laws.specs.Counted.{counted_list}
use Rattle.mission_laws.specs.Paid.{HasPaid}
use Rattle.mission_laws.specs.UnderWay.{items_after, IsUnderWay, PassesPhase, PassesTests}
use Rattle.mission_laws.specs.Missions.{HasCounted}
use Rattle.mission_laws.proofs.Paid.{paid-first, paid-phase, paid-tests, paid-all}
use Rattle.mission_laws.proofs.Complements.{down-counted, up-counted, entry-counted}

-- the item at a place of a list, and those behind it
drop-at : {A : Type 0} (xs : List A) (p : ℕ) (d : A) → p < length xs → drop p xs ≡ get_or xs p d ∷ drop (suc p) xs
drop-at [] p d h = absurd (omega arith)
drop-at (x ∷ xs) zero d h = refl
drop-at (x ∷ xs) (suc p) d h = drop-at xs p d (omega arith)

drop-all : {A : Type 0} (xs : List A) (p : ℕ) → length xs ≤ p → drop p xs ≡ []
drop-all [] zero h = refl
drop-all [] (suc p) h = refl
drop-all (x ∷ xs) zero h = absurd (omega arith)
drop-all (x ∷ xs) (suc p) h = drop-all xs p (omega arith)

module _ (l : LoopValue) where
  -- the phase p comes first, and then the tests of the hour at which the next one starts
  pub items-next : (p : ℕ) (d : Phase) → suc p < length (phases_of l)
      → items_after l p ≡ beats_items l.subsystems true (get_or (phases_of l) p d).hours
      ++ Tests (tests_at l (get_or (phases_of l) (suc p) d).start) ∷ items_after l (suc p)
  items-next p d h =
      let one : drop p (phases_of l) ≡ get_or (phases_of l) p d ∷ drop (suc p) (phases_of l) = drop-at (phases_of l) p d (omega arith) in
      let two : drop (suc p) (phases_of l) ≡ get_or (phases_of l) (suc p) d ∷ drop (suc (suc p)) (phases_of l) = drop-at (phases_of l) (suc p) d h in
      rw (one, two) refl

  -- and the last phase comes alone
  pub items-last : (p : ℕ) (d : Phase) → suc p ≡ length (phases_of l) → items_after l p ≡ beats_items l.subsystems true (get_or (phases_of l) p d).hours ++ []
  items-last p d h =
      let one : drop p (phases_of l) ≡ get_or (phases_of l) p d ∷ drop (suc p) (phases_of l) = drop-at (phases_of l) p d (omega arith) in
      let two : drop (suc p) (phases_of l) ≡ [] = drop-all (phases_of l) (suc p) (omega arith) in
      rw (one, two) (sym (append-nil (beats_items l.subsystems true (get_or (phases_of l) p d).hours)))

  module _ (order : ℕ) (greatest : Fraction) where
    -- at the start everything is still to come
    pub at_start : (dwell v : List ℕ) → ((f : Values ℕ) → weigh dwell f ≡ whole 0) → ((f : Values ℕ) → weigh v f ≡ whole (2 ^ 48) *ℚ f 0)
        → IsUnderWay l order greatest 0 dwell v 0 0
    unfolding schedule_of
    at_start dwell v none first =
        let begun : (n : ℕ) (f : Values ℕ) (q : List ChannelTest → Values ℕ) → HasPaid l.subsystems n f q (λ i. whole 0) (schedule_of l) (schedule_of l) dwell v 0 =
        λ n f q. paid-first l.subsystems n f q (λ i. whole 0) (schedule_of l) dwell v (none f) (le_of_same _ _ (first _)) in
        record { down = λ n o. begun n _ _; up = λ n o. begun n _ _; entry = λ n o. begun n _ _; calm = λ n o. begun n _ _ }

    module _ (p : ℕ) (d : Phase) (dwell v dwell' v' : List ℕ) (passed stayed : ℕ) (way : IsUnderWay l order greatest p dwell v passed stayed)
        (phase : PassesPhase l.subsystems order (get_or (phases_of l) p d).hours (beats_of l.subsystems (get_or (phases_of l) p d).hours) v v' dwell dwell') where
      abbrev hours : ℕ
      hours = (get_or (phases_of l) p d).hours

      -- over the beats of the phase, whatever is counted
      over : (n : ℕ) → order ≤ n → (f : Values ℕ) (q : List ChannelTest → Values ℕ) (left : List Item) (x : ℕ)
          → items_after l p ≡ beats_items l.subsystems true (get_or (phases_of l) p d).hours ++ left
          → HasPaid l.subsystems n f q (λ i. whole 0) (schedule_of l) (items_after l p) dwell v x
          → HasPaid l.subsystems n f q (λ i. whole 0) (schedule_of l) left dwell' v' x
      over n o f q left x e before =
          paid-phase l.subsystems n f q (λ i. whole 0) (schedule_of l) (get_or (phases_of l) p d).hours left dwell v dwell' v' x
          (phase.ends n o) (phase.stays n o f) (subst (λ (items : List Item). HasPaid l.subsystems n f q (λ i. whole 0) (schedule_of l) items dwell v x) e before)

      -- a phase that is not the last, and the tests after it
      module _ (more : suc p < length (phases_of l)) (w : List ℕ) (x y : ℕ)
          (hour : PassesTests l.subsystems (tests_at l (get_or (phases_of l) (suc p) d).start) v' w x y) where
        abbrev ts : List ChannelTest
        ts = tests_at l (get_or (phases_of l) (suc p) d).start

        through : (n : ℕ) → order ≤ n → (f : Values ℕ) (q : List ChannelTest → Values ℕ) (a b : ℕ) → whole b ≤ℚ weigh v' (q ts)
            → HasPaid l.subsystems n f q (λ i. whole 0) (schedule_of l) (items_after l p) dwell v a
            → HasPaid l.subsystems n f q (λ i. whole 0) (schedule_of l) (items_after l (suc p)) dwell' w (a + b)
        through n o f q a b most before =
            paid-tests l.subsystems n f q (λ i. whole 0) (schedule_of l) ts (items_after l (suc p)) dwell' v' w a b hour.ends most
            (over n o f q (Tests ts ∷ items_after l (suc p)) a (items-next p d more) before)

        pub next_phase : IsUnderWay l order greatest (suc p) dwell' w (passed + x) (stayed + y)
        next_phase = record {
          down = λ n o. through n o _ _ 0 0 (zero-le _) (way.down n o);
          up = λ n o. through n o _ _ 0 0 (zero-le _) (way.up n o);
          entry = λ n o. through n o _ _ passed x hour.pass (way.entry n o);
          calm = λ n o. through n o _ _ stayed y hour.stay (way.calm n o);
        }

      -- the last phase
      pub last_phase : suc p ≡ length (phases_of l) → (n : ℕ) → order ≤ n → HasCounted l greatest n dwell' passed stayed
      last_phase end n o =
          let done : (f : Values ℕ) (q : List ChannelTest → Values ℕ) (a : ℕ)
          → HasPaid l.subsystems n f q (λ i. whole 0) (schedule_of l) (items_after l p) dwell v a
          → weigh dwell' f +ℚ whole a ≤ℚ whole (2 ^ 48) *ℚ counted_list l.subsystems n f q (λ i. whole 0) (schedule_of l) 0 =
          λ f q a before. paid-all l.subsystems n f q (λ i. whole 0) (schedule_of l) dwell' v' a (over n o f q [] a (items-last p d end) before) in
          record {
            down = rw (down-counted l.subsystems n (schedule_of l), ← add-zero (weigh dwell' (payoff_list l.subsystems Down))) (done _ _ 0 (way.down n o));
            up = rw (up-counted l.subsystems n (schedule_of l), ← add-zero (weigh dwell' (payoff_list l.subsystems Up))) (done _ _ 0 (way.up n o));
            entry = rw (entry-counted l.subsystems n (schedule_of l)) (done _ _ passed (way.entry n o));
            calm = done _ _ stayed (way.calm n o);
          }
