-- The sum, the mean and the pairs of the numbers of steps in numbers that stay below m beats.
use Rattle.std.proofs.Common.{◌≡◌, ℕ, zero, suc, ◌+◌, ◌-◌, ◌*◌, ◌^◌, ◌<◌, ◌≤◌, refl, sym, ap, ◌∙◌, arith}
use Rattle.std.proofs.Math.Nat.{mul-pos}
use mathlib.Core.Path.{fun_ext}
use Rattle.sil_fraction.specs.Fraction.{Fraction, ◌+ℚ◌, ◌*ℚ◌, ◌≤ℚ◌, whole, ratio, inverse}
use Rattle.sil_fraction.specs.Sum.{total_below, sum_below}
use Rattle.sil_fraction.proofs.Laws.{mul_comm, mul_assoc, mul-add, zero-add, le_refl, le_trans, le-whole, whole-le}
use Rattle.sil_fraction.proofs.Laws.{whole-add, whole-mul, mul-le-right, ratio-mul, ratio-same, whole-ratio, mul-inverse, le_of_same}
use Rattle.sil_fraction.proofs.Sums.{below-le, below-add, below-first, below-constant, mul-below, add-le-add}
use Rattle.sil_fraction.proofs.Sums.{mul-one, mul-zero, le-add_right, whole-sum, whole-positive}
use Rattle.sil_model.specs.Series.{Values, times, factorial, series_of, tail_of, beat_of, mean_of}
use Rattle.model_laws.specs.Polynomial.{IsLinear, IsBelow, combined, sojourn, means_of, in_units}
use Rattle.model_laws.proofs.Series.{factorial_pos, series_positive, tail_total_at}
use Rattle.model_laws.proofs.Operators.{times-constant}
use Rattle.model_laws.proofs.Beats.{beat-constant, mean-constant, beat-linear}
use Rattle.vector_laws.specs.Block.{StayBelow}

-- a sum with shares of P that is at most y, in whole numbers
whole_units : (P n y : ℕ) (X Z : ℕ → ℕ) → 0 < P → combined n (in_units P X) (λ k. whole (Z k)) ≤ℚ whole y → sum_below n (λ k. X k * Z k) ≤ y * P
whole_units P n y X Z some h =
    let p : inverse (whole P) *ℚ whole P ≡ whole 1 = mul_comm _ _ ∙ mul-inverse (whole P) (whole-positive P some) in
    let each : (k : ℕ) → whole P *ℚ (in_units P X k *ℚ whole (Z k)) ≡ whole (X k * Z k) =
    λ k. mul_comm _ _ ∙ ap (λ s. s *ℚ whole P) (mul_assoc _ _ _ ∙ ap (λ s. whole (X k) *ℚ s) (mul_comm _ _)) ∙ ap (λ s. s *ℚ whole P) (sym (mul_assoc _ _ _))
    ∙ mul_assoc _ _ _ ∙ ap (λ s. (whole (X k) *ℚ whole (Z k)) *ℚ s) p ∙ mul-one _ ∙ sym (whole-mul (X k) (Z k)) in
    let scaled : whole (sum_below n (λ k. X k * Z k)) ≡ combined n (in_units P X) (λ k. whole (Z k)) *ℚ whole P =
    whole-sum n (λ k. X k * Z k) ∙ ap (total_below n) (fun_ext (λ k. sym (each k))) ∙ sym (mul-below n (whole P) _) ∙ mul_comm _ _ in
    le-whole _ _ (rw (scaled, whole-mul y P) (mul-le-right _ _ (whole P) h))

-- the step that stays
stay : Values ℕ → Values ℕ
stay f = f

stay-linear : IsLinear stay
unfolding stay
stay-linear = record { adds = λ f g. refl; scales = λ c f. refl; grows = λ f g h. h }

-- the step to the next place
next : Values ℕ → Values ℕ
next f i = f (suc i)

next-linear : IsLinear next
unfolding next
next-linear = record { adds = λ f g. refl; scales = λ c f. refl; grows = λ f g h i. h (suc i) }

times-next : (k : ℕ) (f : Values ℕ) (i : ℕ) → times next k f i ≡ f (k + i)
unfolding next
times-next zero f i = let e : 0 + i ≡ i = omega arith in rw e refl
times-next (suc k) f i = let e : k + suc i ≡ suc k + i = omega arith in times-next k f (suc i) ∙ ap f e

-- the number of the place, c places on
abbrev place : ℕ → Values ℕ
place c i = whole (i + c)

-- k + 1 times 1/(k + 1)!
one_term : (k : ℕ) → ratio 1 (factorial (suc k)) *ℚ whole (suc k) ≡ ratio 1 (factorial k)
unfolding factorial
one_term k = mul_comm _ _ ∙ (rw (whole-ratio (suc k), ratio-mul (suc k) 1 1 (suc k * factorial k) (omega arith) (mul-pos (omega arith) (factorial_pos k)))
    (ratio-same _ _ _ _ (mul-pos (omega arith) (mul-pos (omega arith) (factorial_pos k))) (factorial_pos k) (omega arith)))

-- the mean number of steps by coefficients c is at most 1, and so they take a place one on
shifted : (n d : ℕ) (c : ℕ → Fraction) (S : Fraction) → (S ≡ whole 0 → ⊥) → total_below n c ≡ S → combined n c whole ≤ℚ S
    → (i : ℕ) → combined n c (λ k. times next k (place d) i) *ℚ inverse S ≤ℚ place (suc d) i
shifted n d c S some mass mean i =
    let each : (k : ℕ) → c k *ℚ times next k (place d) i ≡ c k *ℚ whole k +ℚ c k *ℚ whole (i + d) =
    λ k. ap (λ s. c k *ℚ s) (times-next k (place d) i ∙ ap whole (omega arith) ∙ whole-add k (i + d)) ∙ mul-add (c k) (whole k) (whole (i + d)) in
    let parts : combined n c (λ k. times next k (place d) i) ≡ combined n c whole +ℚ S *ℚ whole (i + d) =
    ap (total_below n) (fun_ext each) ∙ below-add n _ _ ∙ ap (λ s. combined n c whole +ℚ s)
    (ap (total_below n) (fun_ext (λ k. mul_comm (c k) (whole (i + d)))) ∙ sym (mul-below n (whole (i + d)) c) ∙ mul_comm _ _
    ∙ ap (λ s. s *ℚ whole (i + d)) mass) in
    let all : S +ℚ S *ℚ whole (i + d) ≡ place (suc d) i *ℚ S =
    ap (λ s. s +ℚ S *ℚ whole (i + d)) (sym (mul-one S)) ∙ sym (mul-add S (whole 1) (whole (i + d)))
    ∙ ap (λ s. S *ℚ s) (sym (whole-add 1 (i + d)) ∙ ap whole (omega arith)) ∙ mul_comm _ _ in
    le_trans _ _ _ (mul-le-right _ _ (inverse S) (rw parts (add-le-add _ _ _ _ mean (le_refl (S *ℚ whole (i + d))))))
    (le_of_same _ _ (ap (λ s. s *ℚ inverse S) all ∙ mul_assoc _ _ _ ∙ ap (λ s. place (suc d) i *ℚ s) (mul-inverse S some) ∙ mul-one _))

-- one beat goes on by at most one place
beat_places : (N d i : ℕ) → beat_of next N (place d) i ≤ℚ place (suc d) i
unfolding beat_of series_of
beat_places N d i =
    shifted (suc N) d (λ k. ratio 1 (factorial k)) (series_of N) (series_positive N) same mean i
  where
    same : total_below (suc N) (λ k. ratio 1 (factorial k)) ≡ series_of N
    same = refl

    mean : combined (suc N) (λ k. ratio 1 (factorial k)) whole ≤ℚ series_of N
    mean =
        le_trans _ _ _
        (le_of_same _ _ (below-first N _ ∙ ap (λ s. s +ℚ total_below N (λ k. ratio 1 (factorial (suc k)) *ℚ whole (suc k))) (mul-zero _) ∙ zero-add _
        ∙ ap (total_below N) (fun_ext one_term)))
        (le-add_right _ _)

-- the tail above k + 1, k + 1 times, is at most that above k
tail_falls : (N k : ℕ) → suc k < N → tail_of N (suc k) *ℚ whole (suc k) ≤ℚ tail_of N k
unfolding tail_of
tail_falls N k h =
    let e : N - k ≡ suc (N - suc k) = omega arith in
    let each : (i : ℕ) → i < N - suc k → whole (suc k) *ℚ ratio 1 (factorial (suc (suc k + i))) ≤ℚ ratio 1 (factorial (suc (k + i))) =
    λ i g. let j : suc k + i ≡ suc (k + i) = omega arith in
    rw j (le_trans _ _ _ (mul-le-right _ _ _ (whole-le (suc k) (suc (suc (k + i))) (omega arith))) (le_of_same _ _ (mul_comm _ _ ∙ one_term (suc (k + i))))) in
    rw (e, mul_comm _ (whole (suc k)), mul-below (N - suc k) (whole (suc k)) _)
    (le_trans _ _ _ (below-le (N - suc k) _ _ each) (le-add_right _ _))

-- and the mean place during a beat is at most one on
mean_places : (N n d i : ℕ) → N ≡ suc n → mean_of next N (place d) i ≤ℚ place (suc d) i
unfolding mean_of
mean_places N n d i e = shifted N d (tail_of N) (series_of (N - 1)) (series_positive (N - 1)) (tail_total_at N n e) mean i
  where
    mean : combined N (tail_of N) whole ≤ℚ series_of (N - 1)
    mean =
        rw (← tail_total_at N n e, e)
        (le_trans _ _ _
        (le_of_same _ _ (below-first n _ ∙ ap (λ s. s +ℚ total_below n (λ k. tail_of (suc n) (suc k) *ℚ whole (suc k))) (mul-zero _) ∙ zero-add _))
        (le_trans _ _ _ (below-le n _ (tail_of (suc n)) (λ k h. tail_falls (suc n) k (omega arith))) (le-add_right _ _)))

beats_places : (N j d : ℕ) (f : Values ℕ) → ((i : ℕ) → f i ≤ℚ place d i) → (i : ℕ) → times (beat_of next N) j f i ≤ℚ place (d + j) i
beats_places N zero d f h i = let e : d + 0 ≡ d = omega arith in rw e (h i)
beats_places N (suc j) d f h i =
    let e : d + suc j ≡ suc (d + j) = omega arith in
    rw e (le_trans _ _ _ ((beat-linear next next-linear N).grows _ (place (d + j)) (beats_places N j d f h) i) (beat_places N (d + j) i))

-- how many pairs of steps there are in k steps
abbrev pub pairs : ℕ → ℕ
pairs k = sum_below k (λ l. l)

module _ (order m : ℕ) (X : ℕ → ℕ) (stays : StayBelow order X m) where
  -- some order from there on
  N : ℕ
  N = suc order

  within : order ≤ N
  unfolding N
  within = omega arith

  follows : N ≡ suc order
  unfolding N
  follows = refl

  below : (T : Values ℕ → Values ℕ) → IsLinear T → IsBelow T (in_units (2 ^ 48) X) (times (beat_of T N) m) (means_of (beat_of T N) (mean_of T N) m)
  below T t = stays.below T t N within

  -- the numbers sum to at most the whole
  pub mass_within : (n : ℕ) → sum_below n X ≤ 2 ^ 48
  mass_within n =
      let h : combined n (in_units (2 ^ 48) X) (λ k. whole 1) ≤ℚ whole 1 =
      le_trans _ _ _ (le_of_same _ _ (ap (total_below n) (fun_ext (λ k. mul-one _)))) ((below stay stay-linear).mass n) in
      let g : sum_below n (λ k. X k * 1) ≤ 1 * 2 ^ 48 = whole_units (2 ^ 48) n 1 X (λ k. 1) (omega arith) h in
      let e : (λ k. X k * 1) ≡ X = fun_ext (λ k. omega arith) in
      rw e at g

  one : Values ℕ
  one i = whole 1

  ones : (k : ℕ) → sojourn stay k one 0 ≡ whole k
  unfolding stay one
  ones k = ap (total_below k) (fun_ext (λ l. ap (λ (g : Values ℕ). g 0) (times-constant stay (whole 1) refl l))) ∙ below-constant k (whole 1)
      ∙ mul-one (whole k)

  all_ones : means_of (beat_of stay N) (mean_of stay N) m one 0 ≡ whole m
  unfolding stay one
  all_ones =
      let mean : mean_of stay N one ≡ one = mean-constant stay (whole 1) refl N order follows in
      let beats : (j : ℕ) → times (beat_of stay N) j one ≡ one = times-constant (beat_of stay N) (whole 1) (beat-constant stay (whole 1) refl N) in
      ap (total_below m) (fun_ext (λ j. ap (λ (g : Values ℕ). times (beat_of stay N) j g 0) mean ∙ ap (λ (g : Values ℕ). g 0) (beats j)))
      ∙ below-constant m (whole 1) ∙ mul-one (whole m)

  -- the mean number of steps is at most m
  pub steps_within : (n : ℕ) → sum_below n (λ k. X k * k) ≤ m * 2 ^ 48
  steps_within n =
      whole_units (2 ^ 48) n m X (λ k. k) (omega arith)
      (le_trans _ _ _ (le_of_same _ _ (ap (total_below n) (fun_ext (λ k. ap (λ s. in_units (2 ^ 48) X k *ℚ s) (sym (ones k))))))
      (le_trans _ _ _ ((below stay stay-linear).sojourns n one 0) (le_of_same _ _ all_ones)))

  -- and the mean number of pairs of steps at most that of m + 1
  pub pairs_within : (n : ℕ) → sum_below n (λ k. X k * pairs k) ≤ pairs (suc m) * 2 ^ 48
  pairs_within n =
      let f : Values ℕ = place 0 in
      let some : (k : ℕ) → sojourn next k f 0 ≡ whole (pairs k) = λ k. ap (total_below k) (fun_ext (λ l. times-next l f 0 ∙ ap whole (omega arith)))
      ∙ sym (whole-sum k (λ l. l)) in
      let first : (i : ℕ) → mean_of next N f i ≤ℚ place 1 i = λ i. mean_places N order 0 i follows in
      let each : (j : ℕ) → j < m → times (beat_of next N) j (mean_of next N f) 0 ≤ℚ whole (suc j) =
      λ j h. le_trans _ _ _ (beats_places N j 1 (mean_of next N f) first 0) (le_of_same _ _ (ap whole (omega arith))) in
      let all : total_below m (λ j. whole (suc j)) ≡ whole (pairs (suc m)) =
      sym (whole-sum (suc m) (λ l. l) ∙ below-first m whole ∙ zero-add _) in
      whole_units (2 ^ 48) n (pairs (suc m)) X pairs (omega arith)
      (le_trans _ _ _ (le_of_same _ _ (ap (total_below n) (fun_ext (λ k. ap (λ s. in_units (2 ^ 48) X k *ℚ s) (sym (some k))))))
      (le_trans _ _ _ ((below next next-linear).sojourns n f 0) (le_trans _ _ _ (below-le m _ _ each) (le_of_same _ _ all))))

pub pairs-twice : (m : ℕ) → 2 * pairs (suc m) ≡ m * (m + 1)
unfolding sum_below
pairs-twice zero = refl
pairs-twice (suc m) = omega (arith, pairs-twice m)
