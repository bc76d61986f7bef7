-- Coefficients that stay below some beats, and below some more: their floored product stays below all of them.
use Rattle.std.proofs.Common.{◌≡◌, ℕ, suc, ◌+◌, ◌-◌, ◌*◌, ◌<◌, ◌≤◌, sym, ap, ◌∙◌, arith}
use mathlib.Core.Path.{fun_ext}
use Rattle.sil_fraction.specs.Fraction.{Fraction, ◌+ℚ◌, ◌*ℚ◌, ◌≤ℚ◌, whole, inverse}
use Rattle.sil_fraction.specs.Sum.{total_below, sum_below}
use Rattle.sil_fraction.proofs.Laws.{mul_comm, mul_assoc, mul-add, le_refl, le_trans, mul-le-right, mul-le-left, whole-mul, whole-le, mul-inverse, le_of_same}
use Rattle.sil_fraction.proofs.Sums.{below-le, below-add, below-append, mul-below, add-le-add, mul-one, whole-sum, whole-positive, le_from_scaled}
use Rattle.sil_model.specs.Series.{Values, times, beat_of, mean_of}
use Rattle.model_laws.specs.Polynomial.{IsLinear, IsBelow, combined, sojourn, means_of, in_units}
use Rattle.model_laws.proofs.Operators.{times-linear, times-add, summed}
use Rattle.model_laws.proofs.Beats.{combined-le, beat-linear}
use Rattle.beat_ladder.proofs.Products.{product, product-combined}

-- a linear operator goes into a sum with coefficients
within_sum : {I : Type 0} (T : Values I → Values I) → IsLinear T → (n : ℕ) (c : ℕ → Fraction) (g : ℕ → Values I) → T (λ i. combined n c (λ k. g k i)) ≡ (λ i. combined n c (λ k. T (g k) i))
within_sum T t n c g = summed T t n (λ k i. c k *ℚ g k i) ∙ fun_ext (λ i. ap (total_below n) (fun_ext (λ k. ap (λ (h : Values _). h i) (t.scales (c k) (g k)))))

module _ {I : Type 0} (T : Values I → Values I) where
  -- smaller coefficients, the same bounds
  pub lowered : (c d : ℕ → Fraction) (B D : Values I → Values I) → ((k : ℕ) → c k ≤ℚ d k) → IsBelow T d B D → IsBelow T c B D
  lowered c d B D h p = record {
    ends = λ n f i. le_trans _ _ _ (combined-le n c d _ _ (λ k _. h k) (λ k _. le_refl _)) (p.ends n f i);
    sojourns = λ n f i. le_trans _ _ _ (combined-le n c d _ _ (λ k _. h k) (λ k _. le_refl _)) (p.sojourns n f i);
    mass = λ n. le_trans _ _ _ (below-le n c d (λ k _. h k)) (p.mass n);
  }

  module _ (t : IsLinear T) where
    -- the first i + j steps are the first i, and i steps before j more
    sojourn-add : (i j : ℕ) (f : Values I) (p : I) → sojourn T (i + j) f p ≡ sojourn T i f p +ℚ times T i (sojourn T j f) p
    sojourn-add i j f p =
        let later : sojourn T j (times T i f) p ≡ times T i (sojourn T j f) p =
        ap (total_below j) (fun_ext (λ l. ap (λ (g : Values I). g p) (sym (times-add T l i f) ∙ (let e : l + i ≡ i + l = omega arith in ap (λ k. times T k f) e) ∙ times-add T i l f)))
        ∙ ap (λ (g : Values I). g p) (sym (summed (times T i) (times-linear T t i) j (λ l. times T l f))) in
        let shift : (l : ℕ) → times T (i + l) f p ≡ times T l (times T i f) p =
        λ l. ap (λ (g : Values I). g p) ((let e : i + l ≡ l + i = omega arith in ap (λ k. times T k f) e) ∙ times-add T l i f) in
        below-append i j (λ l. times T l f p) ∙ ap (λ s. sojourn T i f p +ℚ s) (ap (total_below j) (fun_ext shift) ∙ later)

    module _ (a b : ℕ → Fraction) (A B C D : Values I → Values I) (pa : IsBelow T a A C) (pb : IsBelow T b B D) where
      -- one after the other, at the end
      product_ends : (n : ℕ) (f : Values I) (i : I) → combined n (product a b) (λ k. times T k f i) ≤ℚ A (B f) i
      product_ends n f i =
          let inner : (k : ℕ) → combined n b (λ j. times T (k + j) f i) ≤ℚ times T k (B f) i =
          λ k. le_trans _ _ _
          (le_of_same _ _ (ap (total_below n) (fun_ext (λ j. ap (λ (g : Values I). b j *ℚ g i) (times-add T k j f))) ∙ sym (ap (λ (g : Values I). g i) (within_sum (times T k) (times-linear T t k) n b (λ j. times T j f)))))
          ((times-linear T t k).grows _ (B f) (pb.ends n f) i) in
          le_trans _ _ _ (product-combined n a b (λ k. times T k f i))
          (le_trans _ _ _ (combined-le n a a _ _ (λ k _. le_refl _) (λ k _. inner k)) (pa.ends n (B f) i))

      -- and in their sojourns
      product_sojourns : (n : ℕ) (f : Values I) (i : I) → combined n (product a b) (λ k. sojourn T k f i) ≤ℚ C f i +ℚ A (D f) i
      product_sojourns n f i =
          let split : (k : ℕ) → combined n b (λ j. sojourn T (k + j) f i) ≡ combined n b (λ j. sojourn T k f i) +ℚ times T k (λ p. combined n b (λ j. sojourn T j f p)) i =
          λ k. ap (total_below n) (fun_ext (λ j. ap (λ s. b j *ℚ s) (sojourn-add k j f i) ∙ mul-add (b j) (sojourn T k f i) (times T k (sojourn T j f) i)))
          ∙ below-add n (λ j. b j *ℚ sojourn T k f i) (λ j. b j *ℚ times T k (sojourn T j f) i)
          ∙ ap (λ (g : Values I). combined n b (λ j. sojourn T k f i) +ℚ g i) (sym (within_sum (times T k) (times-linear T t k) n b (λ j. sojourn T j f))) in
          let whole_mass : (k : ℕ) → combined n b (λ j. sojourn T k f i) ≤ℚ sojourn T k f i =
          λ k. le_trans _ _ _ (le_of_same _ _ (ap (total_below n) (fun_ext (λ j. mul_comm (b j) (sojourn T k f i))) ∙ sym (mul-below n (sojourn T k f i) b)))
          (le_trans _ _ _ (mul-le-left (sojourn T k f i) _ _ (pb.mass n)) (le_of_same _ _ (mul-one _))) in
          let inner : (k : ℕ) → combined n b (λ j. sojourn T (k + j) f i) ≤ℚ sojourn T k f i +ℚ times T k (D f) i =
          λ k. le_trans _ _ _ (le_of_same _ _ (split k)) (add-le-add _ _ _ _ (whole_mass k) ((times-linear T t k).grows _ (D f) (pb.sojourns n f) i)) in
          le_trans _ _ _ (product-combined n a b (λ k. sojourn T k f i))
          (le_trans _ _ _ (combined-le n a a _ _ (λ k _. le_refl _) (λ k _. inner k))
          (le_trans _ _ _ (le_of_same _ _ (ap (total_below n) (fun_ext (λ k. mul-add (a k) _ _)) ∙ below-add n _ _))
          (add-le-add _ _ _ _ (pa.sojourns n f i) (pa.ends n (D f) i))))

      product_mass : (n : ℕ) → total_below n (product a b) ≤ℚ whole 1
      product_mass n =
          let ones : (c : ℕ → Fraction) → combined n c (λ k. whole 1) ≡ total_below n c = λ c. ap (total_below n) (fun_ext (λ k. mul-one (c k))) in
          le_trans _ _ _ (le_of_same _ _ (sym (ones (product a b))))
          (le_trans _ _ _ (product-combined n a b (λ k. whole 1))
          (le_trans _ _ _ (combined-le n a a _ (λ k. whole 1) (λ k _. le_refl _) (λ k _. le_trans _ _ _ (le_of_same _ _ (ones b)) (pb.mass n)))
          (le_trans _ _ _ (le_of_same _ _ (ones a)) (pa.mass n))))

      -- a product of polynomials is one after the other
      multiplied : IsBelow T (product a b) (λ f. A (B f)) (λ f i. C f i +ℚ A (D f) i)
      multiplied = record { ends = product_ends; sojourns = product_sojourns; mass = product_mass }

-- the means of m beats, and of n more
pub means-add : {I : Type 0} (G M : Values I → Values I) → IsLinear G → (m n : ℕ) (f : Values I) (i : I) → means_of G M (m + n) f i ≡ means_of G M m f i +ℚ times G m (means_of G M n f) i
means-add {I} G M g m n f i =
    below-append m n (λ j. times G j (M f) i)
    ∙ ap (λ s. means_of G M m f i +ℚ s) (ap (total_below n) (fun_ext (λ j. ap (λ (h : Values I). h i) (times-add G m j (M f)))) ∙ ap (λ (h : Values I). h i) (sym (summed (times G m) (times-linear G g m) n (λ j. times G j (M f)))))

-- each number of a product, rounded down
floored : (P : ℕ) (X Y Z : ℕ → ℕ) → 0 < P → ((k : ℕ) → Z k * P ≤ sum_below (suc k) (λ i. X i * Y (k - i))) → (k : ℕ) → in_units P Z k ≤ℚ product (in_units P X) (in_units P Y) k
floored P X Y Z some h k =
    let p : whole P *ℚ inverse (whole P) ≡ whole 1 = mul-inverse (whole P) (whole-positive P some) in
    let one : whole (Z k) *ℚ whole P ≤ℚ total_below (suc k) (λ i. whole (X i) *ℚ whole (Y (k - i))) =
    rw (whole-mul (Z k) P, whole-sum (suc k) (λ i. X i * Y (k - i)) ∙ ap (total_below (suc k)) (fun_ext (λ i. whole-mul (X i) (Y (k - i))))) at (whole-le _ _ (h k)) in
    let each : (x y : Fraction) → whole P *ℚ ((x *ℚ inverse (whole P)) *ℚ (y *ℚ inverse (whole P))) ≡ (x *ℚ y) *ℚ inverse (whole P) =
    λ x y. regroup (whole P) x y (inverse (whole P)) p in
    le_from_scaled P _ _ some
    (rw (mul_comm (product (in_units P X) (in_units P Y) k) (whole P), mul-below (suc k) (whole P) (λ i. in_units P X i *ℚ in_units P Y (k - i)))
    (le_trans _ _ _ (le_of_same _ _ (mul_assoc (whole (Z k)) (inverse (whole P)) (whole P) ∙ ap (λ s. whole (Z k) *ℚ s) (mul_comm _ _) ∙ sym (mul_assoc (whole (Z k)) (whole P) (inverse (whole P)))))
    (le_trans _ _ _ (mul-le-right _ _ (inverse (whole P)) one)
    (le_of_same _ _ (mul_comm _ _ ∙ mul-below (suc k) (inverse (whole P)) _ ∙ ap (total_below (suc k)) (fun_ext (λ i. mul_comm (inverse (whole P)) _ ∙ sym (each (whole (X i)) (whole (Y (k - i)))))))))))
  where
    regroup : (p x y q : Fraction) → p *ℚ q ≡ whole 1 → p *ℚ ((x *ℚ q) *ℚ (y *ℚ q)) ≡ (x *ℚ y) *ℚ q
    regroup p x y q e =
        let a : p *ℚ ((x *ℚ q) *ℚ (y *ℚ q)) ≡ (p *ℚ q) *ℚ ((x *ℚ y) *ℚ q) = grind (arith, mul_assoc, mul_comm) in
        a ∙ ap (λ s. s *ℚ ((x *ℚ y) *ℚ q)) e ∙ mul_comm _ _ ∙ mul-one _

module _ {I : Type 0} (T : Values I → Values I) (t : IsLinear T) (N P : ℕ) (some : 0 < P) where
  -- numbers in units of 1 / P that stay below m beats
  abbrev pub IsUnder : (ℕ → ℕ) → ℕ → Type 0
  IsUnder X m = IsBelow T (in_units P X) (times (beat_of T N) m) (means_of (beat_of T N) (mean_of T N) m)

  pub beats-add : (X Y Z : ℕ → ℕ) (m n : ℕ) → ((k : ℕ) → Z k * P ≤ sum_below (suc k) (λ i. X i * Y (k - i))) → IsUnder X m → IsUnder Y n → IsUnder Z (m + n)
  beats-add X Y Z m n h px py =
      let G : Values I → Values I = beat_of T N in
      let M : Values I → Values I = mean_of T N in
      let p : IsBelow T (in_units P Z) (λ f. times G m (times G n f)) (λ f i. means_of G M m f i +ℚ times G m (means_of G M n f) i) =
      lowered T (in_units P Z) (product (in_units P X) (in_units P Y)) _ _ (floored P X Y Z some h) (multiplied T t (in_units P X) (in_units P Y) _ _ _ _ px py) in
      record {
        ends = λ k f i. le_trans _ _ _ (p.ends k f i) (le_of_same _ _ (ap (λ (g : Values I). g i) (sym (times-add G m n f))));
        sojourns = λ k f i. le_trans _ _ _ (p.sojourns k f i) (le_of_same _ _ (sym (means-add G M (beat-linear T t N) m n f i)));
        mass = p.mass;
      }
