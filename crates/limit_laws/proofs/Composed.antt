-- A beat of one operator, and a beat of each of two others whose sum is the operator and 1.
use Rattle.std.proofs.Common.{◌≡◌, ℕ, zero, suc, ◌+◌, ◌*◌, ◌^◌, ◌<◌, ◌≤◌, refl, sym, ap, ◌∙◌, arith}
use Rattle.std.proofs.Math.Nat.{add-zero as nat-add-zero, add-suc as nat-add-suc, mul-le-mul_right, mul-pos, pow-zero, pow-succ'}
use mathlib.Core.Path.{fun_ext}
use Rattle.sil_fraction.specs.Fraction.{Fraction, ◌+ℚ◌, ◌*ℚ◌, ◌≤ℚ◌, whole, ratio, inverse}
use Rattle.sil_fraction.specs.Sum.{total_below}
use Rattle.sil_fraction.proofs.Laws.{add_assoc, mul_comm, mul_assoc, zero-add, one-mul, le_refl, le_trans, zero-le, le_of_same, mul-le-left, mul-le-right}
use Rattle.sil_fraction.proofs.Laws.{mul-le-mul, mul-inverse, whole-mul, ratio-le-ratio}
use Rattle.sil_fraction.proofs.Sums.{add-le-add, le-add_right, mul-one, mul-below, below-le}
use Rattle.sil_model.specs.Series.{Values, times, factorial, series_of, beat_of}
use Rattle.model_laws.specs.Polynomial.{IsLinear}
use Rattle.model_laws.proofs.Operators.{times-linear, summed}
use Rattle.model_laws.proofs.Series.{factorial_pos}
use Rattle.model_laws.proofs.Rates.{over-add}
use Rattle.exponential_laws.proofs.Sums.{diagonal, triangle, box, triangle-le-box, box-le-triangle}
use Rattle.exponential_laws.proofs.Binomial.{term, binomial}
use Rattle.limit_laws.specs.Near.{IsNear}
use Rattle.limit_laws.specs.Bounds.{power_remainder_of}
use Rattle.limit_laws.proofs.Tails.{later, sum-later, factorial-suc, one_below_series}
use Rattle.limit_laws.proofs.Quotients.{some_from_one}
use Rattle.limit_laws.proofs.Nearness.{near_scaled, near_wider}

-- the terms of the series of r^k/k!, and their sum after an order
module _ (r : ℕ) where
  abbrev pub raised : ℕ → Fraction
  raised k = ratio (r ^ k) (factorial k)

  times_all : (P F k : ℕ) → 2 * r ≤ k → (2 * (r * P)) * F ≤ P * (k * F)
  times_all P F k h = omega (arith, mul-le-mul_right (P * F) h)

  raised_next : (k : ℕ) → 2 * r ≤ suc k → raised (suc k) +ℚ raised (suc k) ≤ℚ raised k
  raised_next k h =
      let F : 0 < factorial k = factorial_pos k in
      let e : r ^ suc k + r ^ suc k ≡ 2 * (r * r ^ k) = omega (arith, pow-succ' r k) in
      rw (over-add (r ^ suc k) (r ^ suc k) (factorial (suc k)), e, factorial-suc k)
      (ratio-le-ratio (2 * (r * r ^ k)) (suc k * factorial k) (r ^ k) (factorial k) (mul-pos (omega arith) F) F (times_all (r ^ k) (factorial k) (suc k) h))

  raised_and_last : (n j : ℕ) → 2 * r ≤ n + 2 → later raised n (suc j) +ℚ raised (suc (n + j)) ≤ℚ raised (suc n) +ℚ raised (suc n)
  raised_and_last n zero h = rw (nat-add-zero, zero-add) (le_refl _)
  raised_and_last n (suc j) h =
      rw add_assoc (le_trans _ _ _ (add-le-add _ _ _ _ (le_refl (later raised n (suc j))) (rw nat-add-suc (raised_next (suc (n + j)) (omega arith))))
      (raised_and_last n j h))

  pub raised_small : (n j : ℕ) → 2 * r ≤ n + 2 → later raised n j ≤ℚ power_remainder_of r n
  raised_small n zero h = zero-le _
  raised_small n (suc j) h =
      let e : r ^ suc n + r ^ suc n ≡ 2 * r ^ suc n = omega arith in
      le_trans _ _ _ (le-add_right _ (raised (suc (n + j))))
      (le_trans _ _ _ (raised_and_last n j h)
      (le_of_same _ _ (over-add (r ^ suc n) (r ^ suc n) (factorial (suc n)) ∙ ap (λ x. ratio x (factorial (suc n))) e)))

-- a linear operator goes into a sum of multiples, and of quotients
into_sum : {I : Type 0} (T : Values I → Values I) → IsLinear T → (n : ℕ) (c : ℕ → Fraction) (y : ℕ → Values I)
    → T (λ s. total_below n (λ k. c k *ℚ y k s)) ≡ (λ s. total_below n (λ k. c k *ℚ T (y k) s))
into_sum {I} T t n c y =
    summed T t n (λ k s. c k *ℚ y k s) ∙ fun_ext (λ s. ap (total_below n) (fun_ext (λ k. ap (λ (h : Values I). h s) (t.scales (c k) (y k)))))

into_quotient : {I : Type 0} (T : Values I → Values I) → IsLinear T → (d : Fraction) (y : Values I) → T (λ s. y s *ℚ d) ≡ (λ s. T y s *ℚ d)
into_quotient T t d y = ap T (fun_ext (λ s. mul_comm (y s) d)) ∙ t.scales d y ∙ fun_ext (λ s. mul_comm d (T y s))

module _ {I : Type 0} (b : Values I → Values I) (f : Values I) (n : ℕ) where
  abbrev S : Fraction
  S = series_of n

  abbrev D : Fraction
  D = inverse (series_of n)

  S-mul-D : S *ℚ D ≡ whole 1
  S-mul-D = mul-inverse S (some_from_one S (one_below_series n))

  D_small : D ≤ℚ whole 1
  D_small = le_trans _ _ _ (le_of_same _ _ (sym (one-mul D))) (le_trans _ _ _ (mul-le-right _ _ D (one_below_series n)) (le_of_same _ _ S-mul-D))

  pub squared_small : D *ℚ D ≤ℚ whole 1
  squared_small = le_trans _ _ _ (mul-le-mul _ _ _ _ D_small D_small) (le_of_same _ _ (one-mul (whole 1)))

  -- a beat of a after a beat of b, as a sum over a square
  pub beat-beat : (a : Values I → Values I) (p : IsLinear a) (s : I)
      → beat_of a n (beat_of b n f) s ≡ (D *ℚ D) *ℚ box (suc n) (suc n) (λ i j. (term i *ℚ term j) *ℚ times a i (times b j f) s)
  unfolding beat_of
  beat-beat a p s =
      let row : (i : ℕ) → term i *ℚ times a i (λ s. total_below (suc n) (λ j. term j *ℚ times b j f s) *ℚ D) s
      ≡ D *ℚ total_below (suc n) (λ j. (term i *ℚ term j) *ℚ times a i (times b j f) s) =
      λ i. ap (λ (h : Values I). term i *ℚ h s) (into_quotient (times a i) (times-linear a p i) D (λ s. total_below (suc n) (λ j. term j *ℚ times b j f s))
      ∙ fun_ext (λ s. ap (λ (h : Values I). h s *ℚ D) (into_sum (times a i) (times-linear a p i) (suc n) term (λ j. times b j f))))
      ∙ turned (term i) (total_below (suc n) (λ j. term j *ℚ times a i (times b j f) s)) D
      ∙ ap (λ x. D *ℚ x) (mul-below (suc n) (term i) (λ j. term j *ℚ times a i (times b j f) s)
      ∙ ap (total_below (suc n)) (fun_ext (λ j. sym (mul_assoc (term i) (term j) (times a i (times b j f) s))))) in
      ap (λ x. x *ℚ D) (ap (total_below (suc n)) (fun_ext row)
      ∙ sym (mul-below (suc n) D (λ i. total_below (suc n) (λ j. (term i *ℚ term j) *ℚ times a i (times b j f) s))))
      ∙ mul_comm _ D ∙ sym (mul_assoc D D _)
    where
      turned : (x y z : Fraction) → x *ℚ (y *ℚ z) ≡ z *ℚ (x *ℚ y)
      turned x y z = sym (mul_assoc x y z) ∙ mul_comm (x *ℚ y) z

abbrev same_values : {I : Type 0} → Values I → Values I
same_values g = g

same-linear : {I : Type 0} → IsLinear {I = I} (λ g. g)
same-linear = record { adds = λ f g. refl; scales = λ c f. refl; grows = λ f g h. h }

same-times : {I : Type 0} (k : ℕ) (f : Values I) → times (λ (g : Values I). g) k f ≡ f
same-times zero f = refl
same-times (suc k) f = same-times k f

-- a beat that does nothing
same-beat : {I : Type 0} (n : ℕ) (f : Values I) → beat_of (λ (g : Values I). g) n f ≡ f
unfolding beat_of series_of
same-beat {I} n f = fun_ext (λ s.
    ap (λ x. x *ℚ inverse (series_of n))
    (ap (total_below (suc n)) (fun_ext (λ k. ap (λ (h : Values I). term k *ℚ h s) (same-times k f) ∙ mul_comm (term k) (f s)))
    ∙ sym (mul-below (suc n) (f s) term))
    ∙ mul_assoc (f s) (series_of n) (inverse (series_of n))
    ∙ ap (λ x. f s *ℚ x) (mul-inverse (series_of n) (some_from_one (series_of n) (one_below_series n))) ∙ mul-one (f s))

-- values up to w, which the two operators together at most multiply by r
module _ {I : Type 0} (a b c : Values I → Values I) (p : IsLinear a) (q : IsLinear b) (cl : IsLinear c)
    (commute : (g : Values I) → b (a g) ≡ a (b g)) (sum : (g : Values I) (s : I) → a g s +ℚ b g s ≡ c g s +ℚ g s)
    (r : ℕ) (w : Values I) (grows : (y : Fraction) (s : I) → a (λ t. y *ℚ w t) s +ℚ b (λ t. y *ℚ w t) s ≤ℚ whole r *ℚ (y *ℚ w s))
    (f : Values I) (small : (s : I) → f s ≤ℚ w s) (n : ℕ) (enough : 2 * r ≤ n + 2) (s : I) where
  -- the sums for a and b, and for c and 1
  abbrev X : ℕ → ℕ → Fraction
  X i j = (term i *ℚ term j) *ℚ times a i (times b j f) s

  abbrev Y : ℕ → ℕ → Fraction
  Y i j = (term i *ℚ term j) *ℚ times c i (times (λ (g : Values I). g) j f) s

  abbrev two : Values I → Values I
  two g s = a g s +ℚ b g s

  of_sum : (m : ℕ) → diagonal m Y ≡ diagonal m X
  of_sum m =
      sym (binomial c (λ g. g) cl same-linear (λ g. refl) m f s)
      ∙ ap (λ (T : Values I → Values I). term m *ℚ times T m f s) (fun_ext (λ g. fun_ext (λ s. sym (sum g s))))
      ∙ binomial a b p q (λ g. sym (commute g)) m f s

  same_triangles : (m : ℕ) → triangle (suc m) Y ≡ triangle (suc m) X
  same_triangles m = ap (total_below (suc m)) (fun_ext of_sum)

  -- the powers of the two together
  multiplied : (m : ℕ) (s : I) → times two m f s ≤ℚ whole (r ^ m) *ℚ w s
  multiplied zero s = let e : r ^ 0 ≡ 1 = pow-zero r in rw (e, one-mul) (small s)
  multiplied (suc m) s =
      let y : Fraction = whole (r ^ m) in
      let e : r ^ suc m ≡ r * r ^ m = pow-succ' r m in
      rw (e, whole-mul r (r ^ m), mul_assoc) (le_trans _ _ _
      (add-le-add _ _ _ _ (p.grows (times two m f) (λ t. y *ℚ w t) (multiplied m) s) (q.grows (times two m f) (λ t. y *ℚ w t) (multiplied m) s))
      (grows y s))

  one_diagonal : (m : ℕ) → diagonal m X ≤ℚ w s *ℚ raised r m
  one_diagonal m = le_trans _ _ _ (le_of_same _ _ (sym (binomial a b p q (λ g. sym (commute g)) m f s)))
      (le_trans _ _ _ (mul-le-left (term m) _ _ (multiplied m s)) (le_of_same _ _ (turned (r ^ m) (factorial m) (w s))))
    where
      turned : (x y : ℕ) (B : Fraction) → ratio 1 y *ℚ (whole x *ℚ B) ≡ B *ℚ ratio x y
      turned x y B = sym (mul_assoc (ratio 1 y) (whole x) B) ∙ mul_comm _ B
          ∙ ap (λ z. B *ℚ z) (mul_comm (ratio 1 y) (whole x) ∙ ap (λ z. whole x *ℚ z) (one-mul (inverse (whole y))))

  larger : triangle (suc (n + n)) X ≤ℚ triangle (suc n) X +ℚ w s *ℚ power_remainder_of r n
  larger = rw (sum-later (λ m. diagonal m X) n n) (add-le-add _ _ _ _ (le_refl _)
      (le_trans _ _ _ (below-le n _ (λ i. w s *ℚ raised r (suc (n + i))) (λ i h. one_diagonal (suc (n + i))))
      (le_trans _ _ _ (le_of_same _ _ (sym (mul-below n (w s) (λ i. raised r (suc (n + i)))))) (mul-le-left (w s) _ _ (raised_small r n n enough)))))

  box_in_triangle : (F : ℕ → ℕ → Fraction) → box (suc n) (suc n) F ≤ℚ triangle (suc (n + n)) F
  box_in_triangle F = let e : suc n + n ≡ suc (n + n) = omega arith in rw e at (box-le-triangle (suc n) n F)

  triangle_in_box : (F : ℕ → ℕ → Fraction) → triangle (suc n) F ≤ℚ box (suc n) (suc n) F
  triangle_in_box F = rw nat-add-zero at (triangle-le-box (suc n) 0 F)

  squares_near : IsNear (w s *ℚ power_remainder_of r n) (box (suc n) (suc n) Y) (box (suc n) (suc n) X)
  squares_near = record {
    above = le_trans _ _ _ (box_in_triangle Y)
        (rw (same_triangles (n + n)) (le_trans _ _ _ larger (add-le-add _ _ _ _ (triangle_in_box X) (le_refl _))));
    below = le_trans _ _ _ (box_in_triangle X)
        (le_trans _ _ _ larger (rw (← same_triangles n) (add-le-add _ _ _ _ (triangle_in_box Y) (le_refl _))));
  }

  pub composed_near : IsNear (w s *ℚ power_remainder_of r n) (beat_of c n f s) (beat_of a n (beat_of b n f) s)
  composed_near =
      let d : Fraction = inverse (series_of n) *ℚ inverse (series_of n) in
      let one : beat_of c n f s ≡ d *ℚ box (suc n) (suc n) Y =
      ap (λ (h : Values I). beat_of c n h s) (sym (same-beat n f)) ∙ beat-beat (λ g. g) f n c cl s in
      let other : beat_of a n (beat_of b n f) s ≡ d *ℚ box (suc n) (suc n) X = beat-beat b f n a p s in
      rw (one, other) (near_wider _ _ _ _ (near_scaled d _ _ _ squares_near)
      (le_trans _ _ _ (mul-le-right d (whole 1) _ (squared_small b f n)) (le_of_same _ _ (one-mul _))))
