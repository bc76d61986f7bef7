-- A row of whole numbers times a matrix, rounded down: what comes out weighs at most what the row weighs by the values asked backwards.
use Rattle.std.proofs.Common.{◌≡◌, ℕ, ◌*◌, ◌/◌, ◌<◌, sym, ap, ◌∙◌}
use mathlib.Core.Path.{fun_ext}
use Rattle.std.proofs.Math.Nat.{div-mul-le_self}
use Rattle.sil_fraction.specs.Fraction.{Fraction, ◌*ℚ◌, ◌≤ℚ◌, whole}
use Rattle.sil_fraction.specs.Sum.{total_below}
use Rattle.sil_fraction.proofs.Laws.{mul_comm, mul_assoc, le_trans, le_of_same, mul-le-right, mul-le-left, whole-mul, whole-le, front}
use Rattle.sil_fraction.proofs.Sums.{below-le, below-swap, mul-below, whole-sum, le_from_scaled}
use Rattle.sil_model.specs.Series.{Values}
use Rattle.dense_power.proofs.Products.{product, rounded}

-- what the first n of a row weigh
abbrev pub weight : ℕ → (ℕ → ℕ) → Values ℕ → Fraction
weight n v f = total_below n (λ j. whole (v j) *ℚ f j)

module _ (n P : ℕ) (some : 0 < P) (v : ℕ → ℕ) (b : ℕ → ℕ → ℕ) where
  -- one column, times P
  column : (f : Values ℕ) (j : ℕ) → whole P *ℚ (whole (product n P some v b j / P) *ℚ f j) ≤ℚ total_below n (λ k. whole (v k) *ℚ (whole (b k j) *ℚ f j))
  column f j =
      let x : ℕ = product n P some v b j in
      let floor : whole (x / P) *ℚ whole P ≤ℚ whole x = rw (← whole-mul (x / P) P) (whole-le _ _ (div-mul-le_self x P)) in
      let spread : whole x *ℚ f j ≡ total_below n (λ k. whole (v k) *ℚ (whole (b k j) *ℚ f j)) =
      ap (λ s. s *ℚ f j) (whole-sum n (λ k. v k * b k j)) ∙ mul_comm _ _ ∙ mul-below n (f j) (λ k. whole (v k * b k j))
      ∙ ap (total_below n) (fun_ext (λ k. mul_comm (f j) _ ∙ ap (λ s. s *ℚ f j) (whole-mul (v k) (b k j)) ∙ mul_assoc _ _ _)) in
      le_trans _ _ _ (le_of_same _ _ (sym (mul_assoc _ _ _) ∙ ap (λ s. s *ℚ f j) (mul_comm _ _))) (rw spread at (mul-le-right _ _ (f j) floor))

  -- where row k of b weighs at most P times the value g k
  pub weight-rounded-le : (f g : Values ℕ) → ((k : ℕ) → k < n → weight n (b k) f ≤ℚ whole P *ℚ g k) → weight n (rounded n P some v b) f ≤ℚ weight n v g
  weight-rounded-le f g rows =
      let first : whole P *ℚ weight n (rounded n P some v b) f ≤ℚ total_below n (λ j. total_below n (λ k. whole (v k) *ℚ (whole (b k j) *ℚ f j))) =
      rw mul-below (below-le n _ _ (λ j h. column f j)) in
      let turned : total_below n (λ j. total_below n (λ k. whole (v k) *ℚ (whole (b k j) *ℚ f j))) ≡ total_below n (λ k. whole (v k) *ℚ weight n (b k) f) =
      below-swap n n (λ j k. whole (v k) *ℚ (whole (b k j) *ℚ f j))
      ∙ ap (total_below n) (fun_ext (λ k. sym (mul-below n (whole (v k)) (λ j. whole (b k j) *ℚ f j)))) in
      let second : total_below n (λ k. whole (v k) *ℚ weight n (b k) f) ≤ℚ whole P *ℚ weight n v g =
      rw mul-below (below-le n _ _ (λ k h. le_trans _ _ _ (mul-le-left (whole (v k)) _ _ (rows k h)) (le_of_same _ _ (front (whole (v k)) (whole P) (g k))))) in
      le_from_scaled P _ _ some (rw (mul_comm (weight n (rounded n P some v b) f) (whole P), mul_comm (weight n v g) (whole P))
      (le_trans _ _ _ first (rw turned second)))
