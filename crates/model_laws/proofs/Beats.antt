-- One beat of a linear operator: it is linear, it keeps constants, and coefficients that stay below it.
use Rattle.std.proofs.Common.{◌≡◌, ℕ, zero, suc, ◌+◌, ◌-◌, ◌<◌, ◌≤◌, refl, sym, ap, ◌∙◌, arith, inl, inr}
use Rattle.std.proofs.lemmas.Bool.{cases_lt}
use mathlib.Core.Path.{fun_ext}
use Rattle.sil_fraction.specs.Fraction.{Fraction, ◌+ℚ◌, ◌*ℚ◌, ◌≤ℚ◌, whole, ratio, inverse}
use Rattle.sil_fraction.specs.Sum.{total_below}
use Rattle.sil_fraction.proofs.Laws.{add_comm, mul_comm, mul_assoc, mul-add, zero-add, zero-mul, le_refl, le_trans, mul-le-right, mul-le-left, le_of_same, mul-inverse}
use Rattle.sil_fraction.proofs.Sums.{below-le, below-same, below-add, mul-below, add-mul, add-zero, mul-one, le-below-more}
use Rattle.sil_model.specs.Series.{Values, times, factorial, series_of, tail_of, beat_of, mean_of}
use Rattle.model_laws.specs.Polynomial.{IsLinear, IsBelow, combined, sojourn, in_units}
use Rattle.model_laws.proofs.Series.{series_positive, tail_none, tail_total_at}
use Rattle.model_laws.proofs.Operators.{times-linear, times-constant}

pub combined-le : (n : ℕ) (c d x y : ℕ → Fraction) → ((k : ℕ) → k < n → c k ≤ℚ d k) → ((k : ℕ) → k < n → x k ≤ℚ y k) → combined n c x ≤ℚ combined n d y
combined-le n c d x y h g = below-le n _ _ (λ k p. le_trans _ _ _ (mul-le-right (c k) (d k) (x k) (h k p)) (mul-le-left (d k) (x k) (y k) (g k p)))

-- the sum of the coefficients above that of k, among the first n
abbrev pub tail_sum : ℕ → (ℕ → Fraction) → ℕ → Fraction
tail_sum n c k = total_below (n - suc k) (λ i. c (suc (k + i)))

tail_more : (n k : ℕ) (c : ℕ → Fraction) → k < n → tail_sum (suc n) c k ≡ tail_sum n c k +ℚ c n
tail_more n k c h =
    let e : suc n - suc k ≡ suc (n - suc k) = omega arith in
    let g : suc (k + (n - suc k)) ≡ n = omega arith in
    rw (e, g) refl

tail_last : (n : ℕ) (c : ℕ → Fraction) → tail_sum (suc n) c n ≡ whole 0
tail_last n c = let e : suc n - suc n ≡ 0 = omega arith in rw e refl

-- coefficients against sums from the start, and their tail sums against the terms
pub tails_combined : (n : ℕ) (c x : ℕ → Fraction) → combined n (tail_sum n c) x ≡ combined n c (λ k. total_below k x)
tails_combined zero c x = refl
tails_combined (suc n) c x =
    ap (λ s. combined n (tail_sum (suc n) c) x +ℚ s *ℚ x n) (tail_last n c)
    ∙ ap (λ s. combined n (tail_sum (suc n) c) x +ℚ s) (zero-mul (x n))
    ∙ add_comm _ (whole 0) ∙ zero-add _
    ∙ below-same n _ (λ k. tail_sum n c k *ℚ x k +ℚ c n *ℚ x k) (λ k h. ap (λ s. s *ℚ x k) (tail_more n k c h) ∙ add-mul _ _ _)
    ∙ below-add n (λ k. tail_sum n c k *ℚ x k) (λ k. c n *ℚ x k)
    ∙ ap (λ s. s +ℚ total_below n (λ k. c n *ℚ x k)) (tails_combined n c x)
    ∙ ap (λ s. combined n c (λ k. total_below k x) +ℚ s) (sym (mul-below n (c n) x))

-- a sum with a divisor, term by term
divided_terms : (n : ℕ) (c x : ℕ → Fraction) (y : Fraction) → combined n (λ k. c k *ℚ y) x ≡ combined n c x *ℚ y
divided_terms n c x y =
    ap (total_below n) (fun_ext (λ k. mul_assoc (c k) y (x k) ∙ ap (λ s. c k *ℚ s) (mul_comm y (x k)) ∙ sym (mul_assoc (c k) (x k) y) ∙ mul_comm _ y))
    ∙ sym (mul-below n y (λ k. c k *ℚ x k)) ∙ mul_comm y _

-- terms that stop at m
nothing_more : (m n : ℕ) (c x : ℕ → Fraction) → ((k : ℕ) → m ≤ k → c k ≡ whole 0) → combined (m + n) c x ≡ combined m c x
nothing_more m zero c x none = let e : m + 0 ≡ m = omega arith in rw e refl
nothing_more m (suc n) c x none =
    let e : m + suc n ≡ suc (m + n) = omega arith in
    rw (e, none (m + n) (omega arith), zero-mul, add-zero) (nothing_more m n c x none)

pub stopped : (m n : ℕ) (c d x : ℕ → Fraction) → ((k : ℕ) → k < m → c k ≤ℚ d k) → ((k : ℕ) → m ≤ k → c k ≡ whole 0) → combined n c x ≤ℚ combined m d x
stopped m n c d x small none =
    let at_most : combined m c x ≤ℚ combined m d x = combined-le m c d x x small (λ k _. le_refl _) in
    elim (cases_lt n m) [
      | inl h ↦ let e : n + (m - n) ≡ m = omega arith in le_trans _ _ _ (rw e at (le-below-more n (m - n) (λ k. c k *ℚ x k))) at_most
      | inr h ↦ let e : m + (n - m) ≡ n = omega arith in le_trans _ _ _ (le_of_same _ _ (rw e at (nothing_more m (n - m) c x none))) at_most
    ]

-- numbers below the terms of the series stay below one beat of any operator
module _ {I : Type 0} (T : Values I → Values I) (N : ℕ) (P : ℕ) (X : ℕ → ℕ)
    (small : (n k : ℕ) → k < suc N → in_units P X k ≤ℚ ratio 1 (factorial k) *ℚ inverse (series_of n))
    (none : (k : ℕ) → suc N ≤ k → in_units P X k ≡ whole 0) where
  beat_ends : (n : ℕ) (f : Values I) (i : I) → combined n (in_units P X) (λ k. times T k f i) ≤ℚ beat_of T N f i
  unfolding beat_of
  beat_ends n f i = le_trans _ _ _ (stopped (suc N) n (in_units P X) (λ k. ratio 1 (factorial k) *ℚ inverse (series_of N)) (λ k. times T k f i) (small N) none)
      (le_of_same _ _ (divided_terms (suc N) (λ k. ratio 1 (factorial k)) (λ k. times T k f i) (inverse (series_of N))))

  tails : (l : ℕ) → l < suc N → tail_sum (suc N) (λ k. ratio 1 (factorial k)) l ≡ tail_of N l
  unfolding tail_of
  tails l h = let e : suc N - suc l ≡ N - l = omega arith in rw e refl

  beat_sojourns : (n : ℕ) (f : Values I) (i : I) → combined n (in_units P X) (λ k. sojourn T k f i) ≤ℚ mean_of T N f i
  unfolding mean_of
  beat_sojourns n f i =
      let x : ℕ → Fraction = λ k. times T k f i in
      let first : combined n (in_units P X) (λ k. sojourn T k f i) ≤ℚ combined (suc N) (λ k. ratio 1 (factorial k) *ℚ inverse (series_of (N - 1))) (λ k. total_below k x) =
      stopped (suc N) n (in_units P X) (λ k. ratio 1 (factorial k) *ℚ inverse (series_of (N - 1))) (λ k. total_below k x) (small (N - 1)) none in
      let second : combined (suc N) (λ k. ratio 1 (factorial k)) (λ k. total_below k x) ≡ total_below N (λ k. tail_of N k *ℚ x k) =
      sym (tails_combined (suc N) (λ k. ratio 1 (factorial k)) x)
      ∙ below-same (suc N) _ (λ k. tail_of N k *ℚ x k) (λ k h. ap (λ s. s *ℚ x k) (tails k h))
      ∙ ap (λ s. total_below N (λ k. tail_of N k *ℚ x k) +ℚ s *ℚ x N) (tail_none N)
      ∙ ap (λ s. total_below N (λ k. tail_of N k *ℚ x k) +ℚ s) (zero-mul (x N)) ∙ add-zero _ in
      le_trans _ _ _ first (le_of_same _ _ (divided_terms (suc N) (λ k. ratio 1 (factorial k)) (λ k. total_below k x) (inverse (series_of (N - 1))) ∙ ap (λ s. s *ℚ inverse (series_of (N - 1))) second))

  beat_mass : (n : ℕ) → total_below n (in_units P X) ≤ℚ whole 1
  unfolding series_of
  beat_mass n =
      let ones : (m : ℕ) (c : ℕ → Fraction) → combined m c (λ k. whole 1) ≡ total_below m c = λ m c. ap (total_below m) (fun_ext (λ k. mul-one (c k))) in
      le_trans _ _ _ (le_of_same _ _ (sym (ones n (in_units P X))))
      (le_trans _ _ _ (stopped (suc N) n (in_units P X) (λ k. ratio 1 (factorial k) *ℚ inverse (series_of N)) (λ k. whole 1) (small N) none)
      (le_of_same _ _ (divided_terms (suc N) (λ k. ratio 1 (factorial k)) (λ k. whole 1) (inverse (series_of N))
      ∙ ap (λ s. s *ℚ inverse (series_of N)) (ones (suc N) (λ k. ratio 1 (factorial k))) ∙ mul-inverse (series_of N) (series_positive N))))

  pub below_one_beat : IsBelow T (in_units P X) (beat_of T N) (mean_of T N)
  below_one_beat = record { ends = beat_ends; sojourns = beat_sojourns; mass = beat_mass }

module _ {I : Type 0} (T : Values I → Values I) (t : IsLinear T) (N : ℕ) where
  r : (k : ℕ) → IsLinear (times T k)
  r k = times-linear T t k

  beat-adds : (f g : Values I) → beat_of T N (λ i. f i +ℚ g i) ≡ (λ i. beat_of T N f i +ℚ beat_of T N g i)
  unfolding beat_of
  beat-adds f g = fun_ext (λ i. ap (λ s. s *ℚ inverse (series_of N))
      (ap (total_below (suc N)) (fun_ext (λ k. ap (λ (h : Values I). ratio 1 (factorial k) *ℚ h i) ((r k).adds f g) ∙ mul-add _ _ _)) ∙ below-add (suc N) _ _) ∙ add-mul _ _ _)

  beat-scales : (c : Fraction) (f : Values I) → beat_of T N (λ i. c *ℚ f i) ≡ (λ i. c *ℚ beat_of T N f i)
  unfolding beat_of
  beat-scales c f = fun_ext (λ i. ap (λ s. s *ℚ inverse (series_of N))
      (ap (total_below (suc N)) (fun_ext (λ k. ap (λ (h : Values I). ratio 1 (factorial k) *ℚ h i) ((r k).scales c f) ∙ sym (mul_assoc _ c _) ∙ ap (λ s. s *ℚ times T k f i) (mul_comm _ c) ∙ mul_assoc c _ _)) ∙ sym (mul-below (suc N) c _)) ∙ mul_assoc c _ _)

  beat-grows : (f g : Values I) → ((i : I) → f i ≤ℚ g i) → (i : I) → beat_of T N f i ≤ℚ beat_of T N g i
  unfolding beat_of
  beat-grows f g h i = mul-le-right _ _ _ (combined-le (suc N) _ _ _ _ (λ k _. le_refl _) (λ k _. (r k).grows f g h i))

  -- a beat is linear where the step is
  pub beat-linear : IsLinear (beat_of T N)
  beat-linear = record { adds = beat-adds; scales = beat-scales; grows = beat-grows }

  -- and so is the mean, as far as sums go
  pub mean-adds : (f g : Values I) → mean_of T N (λ i. f i +ℚ g i) ≡ (λ i. mean_of T N f i +ℚ mean_of T N g i)
  unfolding mean_of
  mean-adds f g = fun_ext (λ i. ap (λ s. s *ℚ inverse (series_of (N - 1)))
      (ap (total_below N) (fun_ext (λ k. ap (λ (h : Values I). tail_of N k *ℚ h i) ((r k).adds f g) ∙ mul-add _ _ _)) ∙ below-add N _ _) ∙ add-mul _ _ _)

-- a weighed sum of one constant
weighed-constant : (n : ℕ) (c : ℕ → Fraction) (x S : Fraction) → total_below n c ≡ S → (S ≡ whole 0 → ⊥) → total_below n (λ k. c k *ℚ x) *ℚ inverse S ≡ x
weighed-constant n c x S e ne =
    ap (λ s. s *ℚ inverse S) (ap (total_below n) (fun_ext (λ k. mul_comm (c k) x)) ∙ sym (mul-below n x c) ∙ ap (λ s. x *ℚ s) e)
    ∙ mul_assoc x S (inverse S) ∙ ap (λ s. x *ℚ s) (mul-inverse S ne) ∙ mul-one x

-- a beat and a mean keep a constant that the step keeps
module _ {I : Type 0} (T : Values I → Values I) (c : Fraction) (e : T (λ i. c) ≡ (λ i. c)) (N : ℕ) where
  pub beat-constant : beat_of T N (λ i. c) ≡ (λ i. c)
  unfolding beat_of series_of
  beat-constant = fun_ext (λ i. ap (λ (t : ℕ → Fraction). total_below (suc N) t *ℚ inverse (series_of N)) (fun_ext (λ k. ap (λ (g : Values I). ratio 1 (factorial k) *ℚ g i) (times-constant T c e k)))
      ∙ weighed-constant (suc N) (λ k. ratio 1 (factorial k)) c (series_of N) refl (series_positive N))

  pub mean-constant : (n : ℕ) → N ≡ suc n → mean_of T N (λ i. c) ≡ (λ i. c)
  unfolding mean_of
  mean-constant n g = fun_ext (λ i. ap (λ (t : ℕ → Fraction). total_below N t *ℚ inverse (series_of (N - 1))) (fun_ext (λ k. ap (λ (g : Values I). tail_of N k *ℚ g i) (times-constant T c e k)))
      ∙ weighed-constant N (λ k. tail_of N k) c (series_of (N - 1)) (tail_total_at N n g) (series_positive (N - 1)))
