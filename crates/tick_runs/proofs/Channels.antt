-- A tick of a vector of one place, as the tests have it.
use Rattle.std.proofs.Common.{◌≡◌, ℕ, ◌*◌, ◌/◌, ◌^◌, ◌≤◌, List, length, sum, slice_index, set, sym, ap, ◌∙◌, arith, refl, ◌<◌, get_or-set_same}
use Rattle.std.proofs.Math.Nat.{div-mul-le_self, mul-le-mul_left}
use Rattle.std.proofs.Math.ListN.{length-set}
use Rattle.sil_fraction.specs.Fraction.{Fraction, ◌*ℚ◌, ◌≤ℚ◌, whole, inverse}
use Rattle.sil_fraction.specs.Sum.{sum_below}
use Rattle.sil_fraction.proofs.Laws.{zero-add, mul_comm, mul_assoc, le_trans, le_of_same, mul-le-right, whole-mul, whole-le}
use Rattle.sil_fraction.proofs.Sums.{divided, whole-positive}
use Rattle.sil_model.specs.Series.{Values}
use Rattle.vector_laws.specs.Vectors.{weigh}
use Rattle.vector_laws.proofs.Masses.{sum_of}

sum-one : (xs : List ℕ) → length xs ≡ 1 → sum xs ≡ slice_index xs 0
unfolding sum_below
sum-one xs e = sum_of xs ∙ rw e (omega arith)

weigh-one : (xs : List ℕ) (f : Values ℕ) → length xs ≡ 1 → weigh xs f ≡ whole (slice_index xs 0) *ℚ f 0
unfolding weigh
weigh-one xs f e = rw e (zero-add _)

-- a share of a number, rounded down, weighs at most the share of what the number weighs
shared : (P w s t : ℕ) (f : Fraction) → 0 < P → t * P ≤ s * w → whole t *ℚ f ≤ℚ whole w *ℚ ((whole s *ℚ f) *ℚ inverse (whole P))
shared P w s t f some h =
    let scaled : (whole t *ℚ f) *ℚ whole P ≡ whole (t * P) *ℚ f =
    mul_assoc _ _ _ ∙ ap (λ x. whole t *ℚ x) (mul_comm _ _) ∙ sym (mul_assoc _ _ _) ∙ ap (λ x. x *ℚ f) (sym (whole-mul t P)) in
    let joined : whole (s * w) *ℚ f ≡ whole w *ℚ (whole s *ℚ f) =
    ap (λ x. x *ℚ f) (whole-mul s w ∙ mul_comm _ _) ∙ mul_assoc _ _ _ in
    le_trans _ _ _
    (divided _ _ (whole P) (whole-positive P some) (le_trans _ _ _ (le_of_same _ _ scaled) (le_trans _ _ _ (mul-le-right _ _ f (whole-le _ _ h)) (le_of_same _ _ joined))))
    (le_of_same _ _ (mul_assoc _ _ _))

module _ (s : ℕ) (within : s ≤ 2 ^ 48) (from to : List ℕ) (e : length from ≡ 1) (h : length to ≡ 1) where
  after : List ℕ
  after = set to 0 (s * slice_index from 0 / 2 ^ 48)

  long : length after ≡ 1
  unfolding after
  long = length-set to 0 (s * slice_index from 0 / 2 ^ 48) ∙ h

  first : slice_index after 0 ≡ s * slice_index from 0 / 2 ^ 48
  unfolding after
  first = let lt : 0 < length to = omega arith in rw get_or-set_same refl

  pub ticked : (f : Values ℕ) → weigh (set to 0 (s * slice_index from 0 / 2 ^ 48)) f ≤ℚ weigh from (λ i. (whole s *ℚ f i) *ℚ inverse (whole (2 ^ 48)))
  unfolding after
  ticked f =
      rw (weigh-one after f long, weigh-one from (λ i. (whole s *ℚ f i) *ℚ inverse (whole (2 ^ 48))) e, first)
      (shared (2 ^ 48) (slice_index from 0) s _ (f 0) (omega arith) (div-mul-le_self (s * slice_index from 0) (2 ^ 48)))

  pub kept : sum (set to 0 (s * slice_index from 0 / 2 ^ 48)) ≤ sum from
  unfolding after
  kept =
      let most : s * slice_index from 0 ≤ 2 ^ 48 * slice_index from 0 = omega (arith, mul-le-mul_left (slice_index from 0) within) in
      omega (arith, sum-one after long, sum-one from e, first, div-mul-le_self (s * slice_index from 0) (2 ^ 48), most)
