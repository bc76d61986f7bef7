-- What is expected over some numbers of beats: it is linear in the values, and grows with the beats.
use Rattle.std.proofs.Common.{◌≡◌, ℕ, suc, ◌*◌, ◌<◌, List, sym, ap, ◌∙◌, arith}
use mathlib.Core.Path.{fun_ext}
use Rattle.sil_fraction.specs.Fraction.{Fraction, ◌+ℚ◌, ◌*ℚ◌, ◌≤ℚ◌, whole}
use Rattle.sil_fraction.specs.Sum.{total_below}
use Rattle.sil_fraction.proofs.Laws.{mul_comm, mul-add, front, whole-mul, whole-le, le_refl, le_trans, le_of_same, mul-le-left, mul-le-right}
use Rattle.sil_fraction.proofs.Sums.{below-le, below-add, mul-below, whole-sum, add-le-add}
use Rattle.sil_model.specs.Series.{Values}
use Rattle.model_laws.specs.Polynomial.{IsLinear}
use Rattle.vector_laws.specs.Vectors.{weigh}
use Rattle.vector_laws.proofs.Weighing.{weigh-total, weigh-mul}
use Rattle.separate_laws.specs.Separate.{expected_over, all_over}
use Rattle.separate_laws.proofs.Steps.{Step}

module _ (m : ℕ) (c : ℕ → ℕ) where
  module _ (g : ℕ → Step) (linear : (j : ℕ) → IsLinear (g j)) where
    adds : (f h : Values ℕ) → expected_over m c g (λ i. f i +ℚ h i) ≡ (λ i. expected_over m c g f i +ℚ expected_over m c g h i)
    adds f h = fun_ext (λ i.
        ap (total_below (suc m)) (fun_ext (λ j. ap (λ (v : Values ℕ). whole (c j) *ℚ v i) ((linear j).adds f h) ∙ mul-add _ _ _)) ∙ below-add (suc m) _ _)

    scales : (b : Fraction) (f : Values ℕ) → expected_over m c g (λ i. b *ℚ f i) ≡ (λ i. b *ℚ expected_over m c g f i)
    scales b f = fun_ext (λ i.
        ap (total_below (suc m)) (fun_ext (λ j. ap (λ (v : Values ℕ). whole (c j) *ℚ v i) ((linear j).scales b f) ∙ front _ b _)) ∙ sym (mul-below (suc m) b _))

    pub expected-linear : IsLinear (expected_over m c g)
    expected-linear = record {
      adds = adds;
      scales = scales;
      grows = λ f h k i. below-le (suc m) _ _ (λ j _. mul-le-left (whole (c j)) _ _ ((linear j).grows f h k i));
    }

    -- where each number of beats weighs at most b, all of them weigh at most b times all
    pub expected-most : (v : List ℕ) (f : Values ℕ) (b : ℕ) → ((j : ℕ) → j < suc m → weigh v (g j f) ≤ℚ whole b)
        → weigh v (expected_over m c g f) ≤ℚ whole (all_over m c * b)
    expected-most v f b h =
        le_trans _ _ _ (le_of_same _ _ (weigh-total v (suc m) (λ j i. whole (c j) *ℚ g j f i)))
        (le_trans _ _ _
        (below-le (suc m) _ (λ j. whole b *ℚ whole (c j))
        (λ j p. le_trans _ _ _ (le_of_same _ _ (weigh-mul v (whole (c j)) (g j f))) (le_trans _ _ _ (mul-le-left (whole (c j)) _ _ (h j p)) (le_of_same _ _ (mul_comm _ _)))))
        (le_of_same _ _ (sym (mul-below (suc m) (whole b) _) ∙ ap (λ s. whole b *ℚ s) (sym (whole-sum (suc m) c)) ∙ mul_comm _ _ ∙ sym (whole-mul _ _))))

  -- by beats that are less at a place
  pub expected-le : (g h : ℕ → Step) (f : Values ℕ) (i : ℕ) → ((j : ℕ) → g j f i ≤ℚ h j f i) → expected_over m c g f i ≤ℚ expected_over m c h f i
  expected-le g h f i k = below-le (suc m) _ _ (λ j _. mul-le-left (whole (c j)) _ _ (k j))

  -- and where they are at most others and a little more
  pub expected-near : (D : Fraction) (x y h : ℕ → Step) (f : Values ℕ) (i : ℕ)
      → ((j : ℕ) → D *ℚ x j f i ≤ℚ D *ℚ h j f i +ℚ whole j *ℚ (x j f i +ℚ y j f i))
      → D *ℚ expected_over m c x f i ≤ℚ D *ℚ expected_over m c h f i +ℚ whole m *ℚ (expected_over m c x f i +ℚ expected_over m c y f i)
  expected-near D x y h f i near =
      let each : (j : ℕ) → j < suc m → D *ℚ (whole (c j) *ℚ x j f i)
      ≤ℚ D *ℚ (whole (c j) *ℚ h j f i) +ℚ whole m *ℚ (whole (c j) *ℚ x j f i +ℚ whole (c j) *ℚ y j f i) =
      λ j p. le_trans _ _ _ (le_of_same _ _ (front D _ _))
      (le_trans _ _ _
      (mul-le-left (whole (c j)) _ _ (le_trans _ _ _ (near j) (add-le-add _ _ _ _ (le_refl _) (mul-le-right _ _ _ (whole-le j m (omega arith))))))
      (le_of_same _ _ (apart (whole (c j)) D (h j f i) (whole m) (x j f i) (y j f i)))) in
      le_trans _ _ _ (le_of_same _ _ (mul-below (suc m) D _))
      (le_trans _ _ _ (below-le (suc m) _ _ each)
      (le_of_same _ _ (below-add (suc m) _ _
      ∙ cc (
        mul-below (suc m) D (λ j. whole (c j) *ℚ h j f i),
        mul-below (suc m) (whole m) (λ j. whole (c j) *ℚ x j f i +ℚ whole (c j) *ℚ y j f i),
        below-add (suc m) (λ j. whole (c j) *ℚ x j f i) (λ j. whole (c j) *ℚ y j f i),
      ))))
    where
      apart : (c d h m x y : Fraction) → c *ℚ (d *ℚ h +ℚ m *ℚ (x +ℚ y)) ≡ d *ℚ (c *ℚ h) +ℚ m *ℚ (c *ℚ x +ℚ c *ℚ y)
      apart c d h m x y = mul-add c _ _ ∙ cc (front c d h, front c m (x +ℚ y), mul-add c x y)
