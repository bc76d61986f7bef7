-- Vectors that are rounded down to whole units.
use Rattle.std.proofs.Common.{ℕ, ◌+◌, ◌*◌, ◌<◌, ◌≤◌, List, length, sum, get_or, sym, ap, ◌∙◌, arith}
use Rattle.std.proofs.Math.Nat.{div-mul-le_self, lt-div-mul-add}
use Rattle.sil_fraction.specs.Fraction.{◌*ℚ◌, ◌≤ℚ◌, whole}
use Rattle.sil_fraction.specs.Sum.{sum_below}
use Rattle.sil_fraction.proofs.Laws.{mul_comm, mul_assoc, le_trans, mul-le-right, whole-mul, whole-le, le_of_same}
use Rattle.sil_fraction.proofs.Sums.{below-le, mul-below, sum-le, sum-add, sum-mul}
use Rattle.sil_model.specs.Series.{Values}
use Rattle.vector_laws.specs.Laws.{AreFloors}
use Rattle.vector_laws.specs.Vectors.{weigh}
use Rattle.vector_laws.proofs.Masses.{sum_of, sum-constant}

module _ (P : ℕ) (some : 0 < P) (sums out : List ℕ) (h : AreFloors P sums out) where
  pub weigh-floor : (f : Values ℕ) → weigh out f *ℚ whole P ≤ℚ weigh sums f
  unfolding weigh
  weigh-floor f =
      let each : (k : ℕ) → k < length out → whole P *ℚ (whole (get_or out k 0) *ℚ f k) ≤ℚ whole (get_or sums k 0) *ℚ f k =
      λ k p. le_trans _ _ _ (le_of_same _ _ (sym (mul_assoc _ _ _) ∙ ap (λ y. y *ℚ f k) (mul_comm _ _ ∙ sym (whole-mul _ _))))
      (mul-le-right _ _ (f k) (whole-le _ _ (rw (h.floor k p) (div-mul-le_self (get_or sums k 0) P)))) in
      rw (mul_comm _ (whole P), ← h.same_length, mul-below (length out) (whole P) (λ k. whole (get_or out k 0) *ℚ f k)) (below-le (length out) _ _ each)

  pub floor-most : P * sum out ≤ sum sums
  floor-most =
      let all : sum_below (length out) (λ k. P * get_or out k 0) ≤ sum_below (length out) (λ k. get_or sums k 0) =
      sum-le (length out) _ _ (λ k p. rw (h.floor k p) (omega (arith, div-mul-le_self (get_or sums k 0) P))) in
      omega (arith, ap (λ s. P * s) (sum_of out), (rw (← h.same_length) at (sum_of sums)), all, sum-mul (length out) P (λ k. get_or out k 0))

  pub floor-least : sum sums ≤ P * sum out + P * length out
  floor-least =
      let all : sum_below (length out) (λ k. get_or sums k 0) ≤ sum_below (length out) (λ k. P * get_or out k 0 + P) =
      sum-le (length out) _ _ (λ k p. rw (h.floor k p) (omega (arith, lt-div-mul-add {a = get_or sums k 0} {b = P} some))) in
      omega (
        arith,
        ap (λ s. P * s) (sum_of out),
        (rw (← h.same_length) at (sum_of sums)),
        all,
        sum-add (length out) (λ k. P * get_or out k 0) (λ k. P),
        sum-mul (length out) P (λ k. get_or out k 0),
        sum-constant (length out) P,
      )
