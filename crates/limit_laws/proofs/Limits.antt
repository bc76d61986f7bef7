-- The laws of real numbers and of the sequences that approach them.
use Rattle.std.proofs.Common.{◌≡◌, ℕ, suc, ◌+◌, ◌*◌, ◌<◌, ◌≤◌, inl, inr, sym, ap, ◌∙◌, arith}
use Rattle.std.proofs.Math.Nat.{mul-pos, mul-le-mul_right}
use Rattle.std.proofs.lemmas.Bool.{cases_lt}
use mathlib.Core.HLevel.{Π_prop}
use Rattle.sil_fraction.specs.Fraction.{Fraction, of, ◌+ℚ◌, ◌≤ℚ◌, ratio}
use Rattle.sil_fraction.proofs.Laws.{by_two, le_prop, add_comm, add_assoc, le_refl, le_trans, le_antisymm, add-le-cancel_right, ratio-positive}
use Rattle.sil_fraction.proofs.Laws.{ratio-le-ratio, le_from_ratio-le, ratio-add, ratio-same}
use Rattle.sil_fraction.proofs.Sums.{add-le-add, le-add_right}
use Rattle.model_laws.proofs.Rates.{over-add}
use Rattle.limit_laws.specs.Near.{IsNear}
use Rattle.limit_laws.specs.Real.{Real, IsBetween, IsNearReal, IsSame, Approaches, real_of}
use Rattle.limit_laws.proofs.Nearness.{near_turned, near_wider, near_chained}

-- what is at most a fraction and 1/k, for every k, is at most the fraction
no_room : (a b c d : ℕ) → 0 < b → 0 < d → ((k : ℕ) → 0 < k → ratio a b ≤ℚ ratio c d +ℚ ratio 1 k) → ratio a b ≤ℚ ratio c d
no_room a b c d p q h =
    ratio-le-ratio a b c d p q (elim (cases_lt (c * b) (a * d)) [
      | inl above ↦ (
          let k : ℕ = suc (d * b) in
          let some : 0 < k = omega arith in
          let e : a * (d * k) ≤ (c * k + 1 * d) * b =
          le_from_ratio-le a b (c * k + 1 * d) (d * k) p (mul-pos q some) (rw (ratio-add c d 1 k q some) at (h k some)) in
          let g : suc (c * b) * k ≤ (a * d) * k = mul-le-mul_right k above in
          absurd (omega arith))
      | inr below ↦ below
    ])

pub le_from_all : (x y : Fraction) → ((k : ℕ) → 0 < k → x ≤ℚ y +ℚ ratio 1 k) → x ≤ℚ y
le_from_all = by_two (λ x y. ((k : ℕ) → 0 < k → x ≤ℚ y +ℚ ratio 1 k) → x ≤ℚ y) (λ x y. Π_prop (λ _. le_prop x y))
    (λ a b h.
    let e : ratio a.num a.den ≡ of a = ratio-positive a.num a.den a.positive in
    let g : ratio b.num b.den ≡ of b = ratio-positive b.num b.den b.positive in
    rw (e, g) at (no_room a.num a.den b.num b.den a.positive b.positive (rw (← e, ← g) at h)))

pub near_from_all : (d x y : Fraction) → ((k : ℕ) → 0 < k → IsNear (d +ℚ ratio 1 k) x y) → IsNear d x y
near_from_all d x y h = record {
  above = le_from_all x (y +ℚ d) (λ k some. rw (add_assoc y d (ratio 1 k)) (h k some).above);
  below = le_from_all y (x +ℚ d) (λ k some. rw (add_assoc x d (ratio 1 k)) (h k some).below);
}

pub halves : (k : ℕ) → 0 < k → ratio 1 (2 * k) +ℚ ratio 1 (2 * k) ≡ ratio 1 k
halves k some = over-add 1 1 (2 * k) ∙ ratio-same (1 + 1) (2 * k) 1 k (omega arith) some (omega arith)

-- the second of three to the end
last_of_three : (x y z : Fraction) → x +ℚ (y +ℚ z) ≡ (x +ℚ z) +ℚ y
last_of_three x y z = ap (λ s. x +ℚ s) (add_comm y z) ∙ sym (add_assoc x z y)

-- by halves: two parts of 1/(2k) come to 1/k
by_halves : (x y z : Fraction) (k : ℕ) → 0 < k → x ≤ℚ y +ℚ ratio 1 (2 * k) → y ≤ℚ z +ℚ ratio 1 (2 * k) → x ≤ℚ z +ℚ ratio 1 k
by_halves x y z k some h g =
    rw (add_assoc z (ratio 1 (2 * k)) (ratio 1 (2 * k)), halves k some) at (le_trans _ _ _ h (add-le-add _ _ _ _ g (le_refl (ratio 1 (2 * k)))))

some_twice : (k : ℕ) → 0 < k → 0 < 2 * k
some_twice k h = omega arith

pub bounds_kept : (lo hi : Fraction) (x : ℕ → Fraction) (r : Real) → Approaches x r → (place : ℕ)
    → ((n : ℕ) → place ≤ n → lo ≤ℚ x n) → ((n : ℕ) → place ≤ n → x n ≤ℚ hi) → IsBetween lo hi r
bounds_kept lo hi x r a place low high = record {
  above = λ k n some h. le_from_all lo (r.at n +ℚ ratio 1 k) (λ j more.
      let p : ℕ = place + a.from j in
      rw (last_of_three (r.at n) (ratio 1 j) (ratio 1 k)) at (le_trans _ _ _ (low p (omega arith)) ((a.near j p more (omega arith)).near k n some h).above));
  below = λ k n some h. le_from_all (r.at n) (hi +ℚ ratio 1 k) (λ j more.
      let p : ℕ = place + a.from j in
      rw (last_of_three hi (ratio 1 j) (ratio 1 k)) at
      (le_trans _ _ _ ((a.near j p more (omega arith)).near k n some h).below (add-le-add _ _ _ _ (high p (omega arith)) (le_refl (ratio 1 j +ℚ ratio 1 k)))));
}

pub bounds_of_number : (lo hi : Fraction) (r s : Real) → IsSame r s → IsBetween lo hi r → IsBetween lo hi s
bounds_of_number lo hi r s same b = record {
  above = λ k m some h. le_from_all lo (s.at m +ℚ ratio 1 k) (λ i more.
      let j : ℕ = 2 * i in
      let n : ℕ = r.from j in
      by_halves lo (r.at n) (s.at m +ℚ ratio 1 k) i more (b.above j n (some_twice i more) (omega arith))
      (rw (last_of_three (s.at m) (ratio 1 j) (ratio 1 k)) at ((same.near j n (some_twice i more) (omega arith)).near k m some h).above));
  below = λ k m some h. le_from_all (s.at m) (hi +ℚ ratio 1 k) (λ i more.
      let j : ℕ = 2 * i in
      let n : ℕ = r.from j in
      let first : s.at m ≤ℚ (r.at n +ℚ ratio 1 k) +ℚ ratio 1 j =
      rw (last_of_three (r.at n) (ratio 1 j) (ratio 1 k)) at ((same.near j n (some_twice i more) (omega arith)).near k m some h).below in
      let second : r.at n +ℚ ratio 1 k ≤ℚ (hi +ℚ ratio 1 k) +ℚ ratio 1 j =
      rw (add_assoc hi (ratio 1 j) (ratio 1 k), last_of_three hi (ratio 1 j) (ratio 1 k)) at
      (add-le-add _ _ _ _ (b.below j n (some_twice i more) (omega arith)) (le_refl (ratio 1 k))) in
      by_halves (s.at m) (r.at n +ℚ ratio 1 k) (hi +ℚ ratio 1 k) i more first second);
}

pub one_limit : (x : ℕ → Fraction) (r s : Real) → Approaches x r → Approaches x s → IsSame r s
one_limit x r s a b = record {
  near = λ k n some h. record {
    near = λ j m also g. near_from_all _ _ _ (λ i more.
        let two : 0 < 2 * i = some_twice i more in
        let p : ℕ = a.from (2 * i) + b.from (2 * i) in
        let e : (ratio 1 (2 * i) +ℚ ratio 1 k) +ℚ (ratio 1 (2 * i) +ℚ ratio 1 j) ≡ (ratio 1 k +ℚ ratio 1 j) +ℚ ratio 1 i =
        shuffle (ratio 1 (2 * i)) (ratio 1 k) (ratio 1 j) ∙ ap (λ t. (ratio 1 k +ℚ ratio 1 j) +ℚ t) (halves i more) in
        rw e at (near_chained _ _ _ (x p) _
        (near_turned _ _ _ ((a.near (2 * i) p two (omega arith)).near k n some h))
        ((b.near (2 * i) p two (omega arith)).near j m also g)));
  };
}
  where
    shuffle : (t u v : Fraction) → (t +ℚ u) +ℚ (t +ℚ v) ≡ (u +ℚ v) +ℚ (t +ℚ t)
    shuffle t u v = grind (arith, add_assoc, add_comm)

-- a number and its own fractions
own_near : (r : Real) (k n : ℕ) → 0 < k → r.from k ≤ n → IsNearReal (ratio 1 k) (r.at n) r
own_near r k n some h = record {
  near = λ j m also g.
      let p : ℕ = r.from k + r.from j in
      near_chained _ _ _ (r.at p) _ (r.settles k n p some h (omega arith)) (r.settles j p m also (omega arith) g);
}

pub approached : (r : Real) → Approaches r.at r
approached r = record { from = r.from; near = own_near r }

-- the same numbers: an equivalence that what is said of numbers goes by

pub same_itself : (r : Real) → IsSame r r
same_itself r = record { near = own_near r }

pub same_turned : (r s : Real) → IsSame r s → IsSame s r
same_turned r s same = record {
  near = λ k n some h. record {
    near = λ j m also g. rw (add_comm (ratio 1 k) (ratio 1 j)) (near_turned _ _ _ ((same.near j m also g).near k n some h));
  };
}

near_same : (d q : Fraction) (r s : Real) → IsNearReal d q r → IsSame r s → IsNearReal d q s
near_same d q r s near same = record {
  near = λ k n some h. near_from_all _ _ _ (λ i more.
      let two : 0 < 2 * i = some_twice i more in
      let p : ℕ = r.from (2 * i) in
      let e : (d +ℚ ratio 1 (2 * i)) +ℚ (ratio 1 (2 * i) +ℚ ratio 1 k) ≡ (d +ℚ ratio 1 k) +ℚ ratio 1 i =
      shuffle d (ratio 1 (2 * i)) (ratio 1 k) ∙ ap (λ t. (d +ℚ ratio 1 k) +ℚ t) (halves i more) in
      rw e at (near_chained _ _ _ (r.at p) _ (near.near (2 * i) p two (omega arith)) ((same.near (2 * i) p two (omega arith)).near k n some h)));
}
  where
    shuffle : (d t u : Fraction) → (d +ℚ t) +ℚ (t +ℚ u) ≡ (d +ℚ u) +ℚ (t +ℚ t)
    shuffle d t u = grind (arith, add_assoc, add_comm)

pub same_chained : (r s t : Real) → IsSame r s → IsSame s t → IsSame r t
same_chained r s t one two = record { near = λ k n some h. near_same _ _ s t (one.near k n some h) two }

pub same_limit : (x : ℕ → Fraction) (r s : Real) → IsSame r s → Approaches x r → Approaches x s
same_limit x r s same a = record { from = a.from; near = λ k n some h. near_same _ _ r s (a.near k n some h) same }

pub one_fraction : (p q : Fraction) → IsSame (real_of p) (real_of q) → p ≡ q
one_fraction p q same = le_antisymm p q (le_from_all p q (λ k some. (near k some).above)) (le_from_all q p (λ k some. (near k some).below))
  where
    near : (k : ℕ) → 0 < k → IsNear (ratio 1 k) p q
    near k some =
        let two : 0 < 2 * k = some_twice k some in
        rw (halves k some) at ((same.near (2 * k) 0 two (omega arith)).near (2 * k) 0 two (omega arith))

pub fraction_bounds : (lo hi q : Fraction) → IsBetween lo hi (real_of q) → (lo ≤ℚ q) × (q ≤ℚ hi)
fraction_bounds lo hi q b = (le_from_all lo q (λ k some. b.above k 0 some (omega arith)), le_from_all q hi (λ k some. b.below k 0 some (omega arith)))

pub not_empty : (lo hi : Fraction) (r : Real) → IsBetween lo hi r → lo ≤ℚ hi
not_empty lo hi r b = le_from_all lo hi (λ i more.
    let j : ℕ = 2 * i in
    let n : ℕ = r.from j in
    by_halves lo (r.at n) hi i more (b.above j n (some_twice i more) (omega arith)) (b.below j n (some_twice i more) (omega arith)))

pub near_bounds : (lo d q : Fraction) (r : Real) → lo +ℚ d ≤ℚ q → IsNearReal d q r → IsBetween lo (q +ℚ d) r
near_bounds lo d q r low near = record {
  above = λ k n some h. add-le-cancel_right _ _ d (le_trans _ _ _ low (rw (last_of_three (r.at n) d (ratio 1 k)) at (near.near k n some h).above));
  below = λ k n some h. rw (add_assoc q d (ratio 1 k)) (near.near k n some h).below;
}

-- a sequence whose term n differs by at most e n from any later one, where e falls below every 1/k
module _ (x e : ℕ → Fraction) (near : (n m : ℕ) → 0 < n → n ≤ m → IsNear (e n) (x n) (x m))
    (place : ℕ → ℕ) (small : (k n : ℕ) → 0 < k → place k ≤ n → e n ≤ℚ ratio 1 k) where
  pub settled : (k n m : ℕ) → 0 < k → suc (place k) ≤ n → n ≤ m → IsNear (ratio 1 k) (x n) (x m)
  settled k n m some h le = near_wider _ _ _ _ (near n m (omega arith) le) (small k n some (omega arith))

  abbrev pub limit : Real
  limit = record {
    at = x;
    from = λ k. suc (place k);
    settles = λ k n m some h g. elim (cases_lt m n) [
      | inl less ↦ near_turned _ _ _ (settled k m n some g (omega arith))
      | inr more ↦ settled k n m some h more
    ];
  }

  pub approaches_limit : Approaches x limit
  approaches_limit = record {
    from = λ k. suc (place k);
    near = λ k n some h. record {
      near = λ j m also g. elim (cases_lt m n) [
        | inl less ↦ near_wider _ _ _ _ (near_turned _ _ _ (settled j m n also g (omega arith))) (rw add_comm (le-add_right (ratio 1 j) (ratio 1 k)))
        | inr more ↦ near_wider _ _ _ _ (settled k n m some h more) (le-add_right (ratio 1 k) (ratio 1 j))
      ];
    };
  }

-- the number that a sequence approaches is as near as the later terms are
pub near_limit : (x : ℕ → Fraction) (r : Real) → Approaches x r → (d : Fraction) (n : ℕ) → ((m : ℕ) → n ≤ m → IsNear d (x n) (x m)) → IsNearReal d (x n) r
near_limit x r a d n near = record {
  near = λ k m some h. near_from_all _ _ _ (λ j more.
      let p : ℕ = n + a.from j in
      let e : d +ℚ (ratio 1 j +ℚ ratio 1 k) ≡ (d +ℚ ratio 1 k) +ℚ ratio 1 j = last_of_three d (ratio 1 j) (ratio 1 k) in
      rw e at (near_chained _ _ _ (x p) _ (near p (omega arith)) ((a.near j p more (omega arith)).near k m some h)));
}
