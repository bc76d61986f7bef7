-- The weights of a group's tests against the chances.
use Rattle.std.proofs.Common.{◌≡◌, ℕ, zero, suc, ◌+◌, ◌-◌, ◌*◌, ◌/◌, ◌^◌, ◌<◌, ◌≤◌, ◌∷◌, List, get_or, replicate, refl, sym, ap, ◌∙◌, arith}
use Rattle.std.proofs.Math.Nat.{mul-le-mul_right, mul-le-mul_left, div-mul-le_self, lt-div-mul-add}
use Rattle.sil_fraction.specs.Fraction.{Fraction, ◌+ℚ◌, ◌-ℚ◌, ◌*ℚ◌, ◌≤ℚ◌, whole, ratio, inverse}
use Rattle.sil_fraction.specs.Sum.{total_below, sum_below}
use Rattle.sil_fraction.proofs.Laws.{le_trans, mul-le-left, mul-le-right, mul_comm, mul_assoc, mul-add, add_comm, add_assoc, zero-add, zero-mul, whole-add, whole-mul, whole-le, le_of_same, whole-div, mul-inverse, ratio-le-ratio}
use Rattle.sil_fraction.proofs.Sums.{trivial, add-mul, add-zero, add-le-add, below-le, below-add, mul-below, below-first, below-same, le_from_scaled, sum-le, sum-add, sum-mul, sum-first, sum-same, whole-positive}
use Rattle.test_matrix.specs.Rows.{by_chance, row, before, row_at, AreWeights}
use Rattle.test_matrix.proofs.Numbers.{sum-constant, rest_of_one}

last : (n : ℕ) (f : ℕ → ℕ) → sum_below (suc n) f ≡ sum_below n f + f n
unfolding sum_below
last n f = refl

module _ (p q : ℕ) where
  -- no more of m channels fail than m
  pub row_past : (m k : ℕ) → m < k → row p q m k ≡ 0
  unfolding row
  row_past zero zero h = absurd (omega arith)
  row_past zero (suc k) h = refl
  row_past (suc m) zero h = absurd (omega arith)
  row_past (suc m) (suc k) h =
      let a : row p q m (suc k) ≡ 0 = row_past m (suc k) (omega arith) in
      let b : row p q m k ≡ 0 = row_past m k (omega arith) in
      rw (a, b) (let e : q * 0 + p * 0 ≡ 0 = omega arith in rw e refl)

  -- a row twice in the sums of the next one: once for a channel that works on, and once for one that fails
  row_sums : (m : ℕ) → sum_below (suc (suc m)) (λ k. q * row p q m k + p * before (row p q m) k) ≡ (p + q) * sum_below (suc m) (row p q m)
  row_sums m =
      let v : ℕ → ℕ = row p q m in
      let a : sum_below (suc (suc m)) v ≡ sum_below (suc m) v + v (suc m) = last (suc m) v in
      let b : sum_below (suc (suc m)) (before v) ≡ 0 + sum_below (suc m) v = sum-first (suc m) (before v) in
      omega (
        arith,
        sum-add (suc (suc m)) (λ k. q * v k) (λ k. p * before v k),
        sum-mul (suc (suc m)) q v,
        sum-mul (suc (suc m)) p (before v),
        row_past m (suc m) (omega arith),
        ap (λ n. q * n) a,
        ap (λ n. p * n) b,
        ap (λ n. q * n) (row_past m (suc m) (omega arith)),
      )

-- one channel more, of any row
module _ (M p q m : ℕ) (v u : ℕ → ℕ) (r s X Y : Fraction) (f : ℕ → Fraction) (some : 0 < M)
    (fails : whole p ≤ℚ r *ℚ whole M) (works : whole q ≤ℚ s *ℚ whole M)
    (past : v (suc m) ≡ 0) (floors : (k : ℕ) → u k * M ≤ q * v k + p * before v k)
    (still : total_below (suc m) (λ k. whole (v k) *ℚ f k) ≤ℚ X *ℚ whole M)
    (failed : total_below (suc m) (λ k. whole (v k) *ℚ f (suc k)) ≤ℚ Y *ℚ whole M) where
  term : (k : ℕ) → whole M *ℚ (whole (u k) *ℚ f k) ≤ℚ whole q *ℚ (whole (v k) *ℚ f k) +ℚ whole p *ℚ (whole (before v k) *ℚ f k)
  term k =
      let a : whole (u k) *ℚ whole M ≤ℚ whole q *ℚ whole (v k) +ℚ whole p *ℚ whole (before v k) =
      rw (whole-add, whole-mul, whole-mul, whole-mul) at (whole-le _ _ (floors k)) in
      let b : (whole (u k) *ℚ whole M) *ℚ f k ≤ℚ (whole q *ℚ whole (v k) +ℚ whole p *ℚ whole (before v k)) *ℚ f k = mul-le-right _ _ (f k) a in
      le_trans _ _ _ (le_of_same _ _ (cc (mul_comm (whole (u k)) (whole M), mul_assoc (whole M) (whole (u k)) (f k))))
      (le_trans _ _ _ b (le_of_same _ _ (rw (add-mul, mul_assoc, mul_assoc) refl)))

  both : total_below (suc (suc m)) (λ k. whole q *ℚ (whole (v k) *ℚ f k) +ℚ whole p *ℚ (whole (before v k) *ℚ f k))
      ≡ whole q *ℚ total_below (suc m) (λ k. whole (v k) *ℚ f k) +ℚ whole p *ℚ total_below (suc m) (λ k. whole (v k) *ℚ f (suc k))
  both =
      let n : whole (v (suc m)) *ℚ f (suc m) ≡ whole 0 = rw past (zero-mul _) in
      let b : total_below (suc (suc m)) (λ k. whole (before v k) *ℚ f k) ≡ total_below (suc m) (λ k. whole (v k) *ℚ f (suc k)) =
      below-first (suc m) (λ k. whole (before v k) *ℚ f k) ∙ simp trivial in
      below-add (suc (suc m)) (λ k. whole q *ℚ (whole (v k) *ℚ f k)) (λ k. whole p *ℚ (whole (before v k) *ℚ f k))
      ∙ cc (
        sym (mul-below (suc (suc m)) (whole q) (λ k. whole (v k) *ℚ f k))
            ∙ ap (λ t. whole q *ℚ t) (ap (λ t. total_below (suc m) (λ k. whole (v k) *ℚ f k) +ℚ t) n ∙ add-zero _),
        sym (mul-below (suc (suc m)) (whole p) (λ k. whole (before v k) *ℚ f k)) ∙ ap (λ t. whole p *ℚ t) b,
      )

  one_channel_more : total_below (suc (suc m)) (λ k. whole (u k) *ℚ f k) ≤ℚ (r *ℚ Y +ℚ s *ℚ X) *ℚ whole M
  one_channel_more =
      let T : Fraction = total_below (suc (suc m)) (λ k. whole (u k) *ℚ f k) in
      let a : whole M *ℚ T ≤ℚ whole q *ℚ total_below (suc m) (λ k. whole (v k) *ℚ f k) +ℚ whole p *ℚ total_below (suc m) (λ k. whole (v k) *ℚ f (suc k)) =
      rw (mul-below (suc (suc m)) (whole M) (λ k. whole (u k) *ℚ f k), ← both) (below-le (suc (suc m)) _ _ (λ k h. term k)) in
      let b : whole q *ℚ total_below (suc m) (λ k. whole (v k) *ℚ f k) ≤ℚ (s *ℚ whole M) *ℚ (X *ℚ whole M) =
      le_trans _ _ _ (mul-le-right _ _ _ works) (mul-le-left _ _ _ still) in
      let c : whole p *ℚ total_below (suc m) (λ k. whole (v k) *ℚ f (suc k)) ≤ℚ (r *ℚ whole M) *ℚ (Y *ℚ whole M) =
      le_trans _ _ _ (mul-le-right _ _ _ fails) (mul-le-left _ _ _ failed) in
      let e : (s *ℚ whole M) *ℚ (X *ℚ whole M) +ℚ (r *ℚ whole M) *ℚ (Y *ℚ whole M) ≡ ((r *ℚ Y +ℚ s *ℚ X) *ℚ whole M) *ℚ whole M =
      grind (arith, mul-add, add-mul, mul_assoc, add_assoc, add_comm, mul_comm) in
      le_from_scaled M T _ some (rw (mul_comm T (whole M), ← e) (le_trans _ _ _ a (add-le-add _ _ _ _ b c)))

module _ (p q : ℕ) (r : Fraction) (fails : whole p ≤ℚ r *ℚ whole (2 ^ 48)) (works : whole q ≤ℚ (whole 1 -ℚ r) *ℚ whole (2 ^ 48)) where
  -- a row is at most the chances
  pub row_below : (m : ℕ) (f : ℕ → Fraction) → total_below (suc m) (λ k. whole (row p q m k) *ℚ f k) ≤ℚ by_chance r m (λ a b. f b) *ℚ whole (2 ^ 48)
  unfolding row by_chance
  row_below zero f = le_of_same _ _ (zero-add _ ∙ mul_comm _ _)
  row_below (suc m) f =
      one_channel_more (2 ^ 48) p q m (row p q m) (row p q (suc m)) r (whole 1 -ℚ r) (by_chance r m (λ a b. f b))
      (by_chance r m (λ a b. f (suc b))) f (omega arith) fails works
      (row_past p q m (suc m) (omega arith)) (λ k. div-mul-le_self (q * row p q m k + p * before (row p q m) k) (2 ^ 48))
      (row_below m f) (row_below m (λ k. f (suc k)))

-- what the row of m channels lacks at most
unfoldable pub row_lack : ℕ → ℕ
row_lack zero = 0
row_lack (suc m) = row_lack m + suc (suc m)

module _ (p q : ℕ) where
  abbrev row_total : ℕ → ℕ
  row_total m = sum_below (suc m) (row p q m)

  abbrev product : ℕ → ℕ → ℕ
  product m k = q * row p q m k + p * before (row p q m) k

  row_floor : (m k : ℕ) → row p q (suc m) k ≡ product m k / 2 ^ 48
  unfolding row
  row_floor m k = refl

  first_row : row_total 0 ≡ 2 ^ 48
  unfolding row sum_below
  first_row = refl

  -- a row adds up to at most 2^48
  pub row_most : p + q ≤ 2 ^ 48 → (m : ℕ) → sum_below (suc m) (row p q m) ≤ 2 ^ 48
  row_most within zero = rw first_row (omega arith)
  row_most within (suc m) =
      let a : sum_below (suc (suc m)) (λ k. 2 ^ 48 * row p q (suc m) k) ≤ sum_below (suc (suc m)) (product m) =
      sum-le (suc (suc m)) _ _ (λ k h. rw row_floor (omega (arith, div-mul-le_self (product m k) (2 ^ 48)))) in
      omega (arith, a, sum-mul (suc (suc m)) (2 ^ 48) (row p q (suc m)), row_sums p q m, mul-le-mul_right (row_total m) within, row_most within m)

  -- and to no less than that by what it lacks
  pub row_least : 2 ^ 48 ≤ p + q + 1 → p + q ≤ 2 ^ 48 → (m : ℕ) → 2 ^ 48 ≤ sum_below (suc m) (row p q m) + row_lack m
  unfolding row_lack
  row_least nearly within zero = rw first_row (omega arith)
  row_least nearly within (suc m) =
      let a : sum_below (suc (suc m)) (product m) ≤ sum_below (suc (suc m)) (λ k. 2 ^ 48 * row p q (suc m) k + (2 ^ 48 - 1)) =
      sum-le (suc (suc m)) _ _ (λ k h. rw row_floor (omega (arith, lt-div-mul-add {a = product m k} {b = 2 ^ 48} (omega arith)))) in
      let b : (2 ^ 48 - 1) * row_total m ≤ (p + q) * row_total m = mul-le-mul_right (row_total m) (omega arith) in
      omega (
        arith,
        a,
        b,
        sum-add (suc (suc m)) (λ k. 2 ^ 48 * row p q (suc m) k) (λ k. 2 ^ 48 - 1),
        sum-mul (suc (suc m)) (2 ^ 48) (row p q (suc m)),
        sum-constant (suc (suc m)) (2 ^ 48 - 1),
        row_sums p q m,
        row_most within m,
        row_least nearly within m,
      )

twice_lack : (m : ℕ) → 2 * row_lack m ≡ m * m + 3 * m
unfolding row_lack
twice_lack zero = refl
twice_lack (suc m) = omega (arith, twice_lack m)

-- up to 8 channels, 44 at most
pub lack_of_eight : (m : ℕ) → m ≤ 8 → row_lack m ≤ 44
lack_of_eight m h = omega (arith, twice_lack m, mul-le-mul_right m h)

-- no entry is above 2^48
pub row_le : (p q m k : ℕ) → p + q ≤ 2 ^ 48 → row p q m k ≤ 2 ^ 48
unfolding row
row_le p q zero zero h = omega arith
row_le p q zero (suc k) h = omega arith
row_le p q (suc m) zero h = omega (arith, div-mul-le_self (q * row p q m 0 + p * 0) (2 ^ 48), mul-le-mul_left q (row_le p q m 0 h))
row_le p q (suc m) (suc k) h =
    omega (
      arith,
      div-mul-le_self (q * row p q m (suc k) + p * row p q m k) (2 ^ 48),
      mul-le-mul_left q (row_le p q m (suc k) h),
      mul-le-mul_left p (row_le p q m k h),
    )

before_same : (n k : ℕ) (f g : ℕ → ℕ) → k < n → ((k : ℕ) → k < n → f k ≡ g k) → before f k ≡ before g k
before_same n zero f g l h = refl
before_same n (suc k) f g l h = h k (omega arith)

-- a row after the one before it
pub row_next : (p q m n k : ℕ) (f : ℕ → ℕ) → 0 < m → k < n → ((k : ℕ) → k < n → f k ≡ row p q (m - 1) k) → (q * f k + p * before f k) / 2 ^ 48 ≡ row p q m k
unfolding row
row_next p q zero n k f s l h = absurd (omega arith)
row_next p q (suc m) n k f s l h =
    let e : suc m - 1 ≡ m = omega arith in
    rw (h k l, before_same n k f (row p q (suc m - 1)) l h, e) refl

zeros : (n k : ℕ) → get_or {A = ℕ} (replicate n 0) k 0 ≡ 0
zeros zero k = refl
zeros (suc n) zero = refl
zeros (suc n) (suc k) = zeros n k

pub row_start : (p q k : ℕ) → get_or (2 ^ 48 ∷ replicate 8 0) k 0 ≡ row p q 0 k
unfolding row
row_start p q zero = refl
row_start p q (suc k) = zeros 8 k

-- a share of a whole number, rounded down
floor_of_share : (c d m : ℕ) → 0 < d → whole (c * m / d) ≤ℚ ratio c d *ℚ whole m
floor_of_share c d m h =
    let e : ratio (c * m) d ≡ ratio c d *ℚ whole m =
    rw whole-mul (cc (
      mul_assoc (whole c) (whole m) (inverse (whole d)),
      mul_comm (whole m) (inverse (whole d)),
      mul_assoc (whole c) (inverse (whole d)) (whole m),
    )) in
    rw e at (whole-div (c * m) d h)

rest_of_share : (c d : ℕ) → 0 < d → c ≤ d → ratio (d - c) d ≡ whole 1 -ℚ ratio c d
rest_of_share c d h g =
    let n : (d - c) + c ≡ d = omega arith in
    rest_of_one _ _ (sym (add-mul (whole (d - c)) (whole c) (inverse (whole d))) ∙ rw (← whole-add, n) (mul-inverse (whole d) (whole-positive d h)))

-- the two weights of a channel, rounded down, and what they lack
module _ (c : ℕ) (within : c ≤ 1_000_000) where
  abbrev pub fails_of : ℕ
  fails_of = c * 2 ^ 48 / 1_000_000

  abbrev pub stays_of : ℕ
  stays_of = (1_000_000 - c) * 2 ^ 48 / 1_000_000

  pub both_within : fails_of + stays_of ≤ 2 ^ 48
  both_within = omega (arith, div-mul-le_self (c * 2 ^ 48) 1_000_000, div-mul-le_self ((1_000_000 - c) * 2 ^ 48) 1_000_000)

  both_nearly : 2 ^ 48 ≤ fails_of + stays_of + 1
  both_nearly =
      omega (arith, lt-div-mul-add {a = c * 2 ^ 48} {b = 1_000_000} (omega arith), lt-div-mul-add {a = (1_000_000 - c) * 2 ^ 48} {b = 1_000_000} (omega arith))

  fails_below : whole fails_of ≤ℚ ratio c 1_000_000 *ℚ whole (2 ^ 48)
  fails_below = floor_of_share c 1_000_000 (2 ^ 48) (omega arith)

  stays_below : whole stays_of ≤ℚ (whole 1 -ℚ ratio c 1_000_000) *ℚ whole (2 ^ 48)
  stays_below = rw (← rest_of_share c 1_000_000 (omega arith) within) (floor_of_share (1_000_000 - c) 1_000_000 (2 ^ 48) (omega arith))

  likely : ratio c 1_000_000 ≤ℚ whole 1
  likely =
      let e : ratio 1 1 ≡ whole 1 = mul-inverse (whole 1) (whole-positive 1 (omega arith)) in
      rw e at (ratio-le-ratio c 1_000_000 1 1 (omega arith) (omega arith) (omega arith))

  -- so the rows are weights
  pub weights_of : (rows : List (List ℕ)) → ((m k : ℕ) → m < 9 → k < 9 → row_at rows m k ≡ row fails_of stays_of m k) → AreWeights rows (ratio c 1_000_000)
  weights_of rows is =
      let same : (m : ℕ) → m < 9 → sum_below (suc m) (row_at rows m) ≡ sum_below (suc m) (row fails_of stays_of m) =
      λ m h. sum-same (suc m) (row_at rows m) (row fails_of stays_of m) (λ k l. is m k h (omega arith)) in
      record {
        below =
            λ m h f. rw (below-same (suc m) (λ k. whole (row_at rows m k) *ℚ f k) (λ k. whole (row fails_of stays_of m k) *ℚ f k)
            (λ k l. ap (λ n. whole n *ℚ f k) (is m k h (omega arith))))
            (row_below fails_of stays_of (ratio c 1_000_000) fails_below stays_below m f);
        within = λ m h. rw (same m h) (row_most fails_of stays_of both_within m);
        lacks = λ m h. omega (arith, same m h, row_least fails_of stays_of both_nearly both_within m, lack_of_eight m (omega arith));
        likely = likely;
      }
