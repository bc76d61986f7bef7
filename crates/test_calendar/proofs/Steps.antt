-- Hours that pass a test, from one to the next.
use Rattle.std.proofs.Common.{◌≡◌, ℕ, zero, suc, ◌+◌, ◌-◌, ◌*◌, ◌%◌, ◌<◌, ◌≤◌, List, [], ◌∷◌, ◌++◌, refl, sym, ◌∙◌, arith, append_assoc, add-one}
use Rattle.std.specs.Prelude.{Bool, true, false, ◌&&◌, filter, map, cond, nat_le, ◌==◌}
use Rattle.std.proofs.lemmas.Bool.{le-leb}
use Rattle.std.proofs.lemmas.Nat.{mod-mul-add}
use Rattle.sil_model.specs.Calendar.{upto}

-- no hour is passed over
pub skipped : (p : ℕ → Bool) (d t m : ℕ) → ((k : ℕ) → t ≤ k → k < t + d → p k ≡ false) → filter p (upto t (d + m)) ≡ filter p (upto (t + d) m)
skipped p zero t m h = let e : 0 + m ≡ m = omega arith in let g : t + 0 ≡ t = omega arith in rw (e, g) refl
skipped p (suc d) t m h =
    let e : suc d + m ≡ suc (d + m) = omega arith in
    let g : t + suc d ≡ suc t + d = omega arith in
    rw (e, g) (rw (h t (omega arith) (omega arith)) (skipped p d (suc t) m (λ k a b. h k (omega arith) (omega arith))))

taken : (p : ℕ → Bool) (t m : ℕ) → p t ≡ true → filter p (upto t (suc m)) ≡ t ∷ filter p (upto (suc t) m)
taken p t m h = rw h refl

module _ (p : ℕ → Bool) (mission : ℕ) where
  -- from an hour to the next that passes, or to the end
  pub hours_skipped : (from next : ℕ) → from ≤ next → next ≤ mission → ((k : ℕ) → from ≤ k → k < next → p k ≡ false) → filter p (upto from (mission - from)) ≡ filter p (upto next (mission - next))
  hours_skipped from next h g none =
      let e : mission - from ≡ (next - from) + (mission - next) = omega arith in
      let l : from + (next - from) ≡ next = omega arith in
      rw e (rw l at (skipped p (next - from) from (mission - next) (λ k a b. none k a (omega arith))))

  pub hour_taken : (hour : ℕ) → hour < mission → p hour ≡ true → filter p (upto hour (mission - hour)) ≡ hour ∷ filter p (upto (hour + 1) (mission - (hour + 1)))
  hour_taken hour h some =
      let e : mission - hour ≡ suc (mission - (hour + 1)) = omega arith in
      rw e (taken p hour (mission - (hour + 1)) some ∙ rw add-one refl)

  pub none_left : (hour : ℕ) → mission ≤ hour → filter p (upto hour (mission - hour)) ≡ []
  none_left hour h = let e : mission - hour ≡ 0 = omega arith in rw e refl

  -- a test hour more
  pub one_hour : (done : List ℕ) (hour next : ℕ) → hour < mission → hour < next → next ≤ mission → p hour ≡ true
      → ((k : ℕ) → hour + 1 ≤ k → k < next → p k ≡ false)
      → filter p (upto 0 mission) ≡ done ++ filter p (upto hour (mission - hour))
      → filter p (upto 0 mission) ≡ (done ++ hour ∷ []) ++ filter p (upto next (mission - next))
  one_hour done hour next a b c some none h =
      h ∙ rw (hour_taken hour a some, hours_skipped (hour + 1) next (omega arith) c none) (sym (append_assoc done (hour ∷ []) (filter p (upto next (mission - next)))))

  pub first_hour : (next : ℕ) → next ≤ mission → ((k : ℕ) → 0 ≤ k → k < next → p k ≡ false) → filter p (upto 0 mission) ≡ filter p (upto next (mission - next))
  first_hour next h none = let e : mission - 0 ≡ mission = omega arith in rw e at (hours_skipped 0 next (omega arith) h none)

-- a whole number of steps after the first hour there is a test
pub tested_after : (first every q : ℕ) → 0 < every → (nat_le first (first + q * every) && (first + q * every - first) % every == 0) ≡ true
tested_after first every q h =
    let a : nat_le first (first + q * every) ≡ true = le-leb _ _ (omega arith) in
    let b : first + q * every - first ≡ q * every + 0 = omega arith in
    rw (a, b, mod-mul-add q every 0 h) refl

-- two tests that agree pass the same hours
pub filter_same : (p q : ℕ → Bool) (t n : ℕ) → ((k : ℕ) → k < t + n → p k ≡ q k) → filter p (upto t n) ≡ filter q (upto t n)
filter_same p q t zero h = refl
filter_same p q t (suc n) h = rw (h t (omega arith), filter_same p q (suc t) n (λ k l. h k (omega arith))) refl

module _ {A : Type 0} (f g : ℕ → A) (p : ℕ → Bool) where
  cond_same : (b : Bool) (t : ℕ) (ts : List ℕ) → f t ≡ g t → map f ts ≡ map g ts → map f (cond b (t ∷ ts) ts) ≡ map g (cond b (t ∷ ts) ts)
  cond_same true t ts a b = cc
  cond_same false t ts a b = b

  -- two functions that agree give the same of the hours that pass
  pub map_same : (t n : ℕ) → ((k : ℕ) → k < t + n → f k ≡ g k) → map f (filter p (upto t n)) ≡ map g (filter p (upto t n))
  map_same t zero h = refl
  map_same t (suc n) h = cond_same (p t) t (filter p (upto (suc t) n)) (h t (omega arith)) (map_same (suc t) n (λ k l. h k (omega arith)))
