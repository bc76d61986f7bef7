-- What the numbers of a vector at the places weigh: no more than the vector, and as much where it holds nothing elsewhere.
use Rattle.std.proofs.Common.{◌≡◌, ℕ, ◌<◌, ◌≤◌, List, length, get_or, sym, ap, ◌∙◌, arith}
use Rattle.std.specs.Prelude.{sum}
use Rattle.sil_fraction.specs.Fraction.{◌*ℚ◌, ◌≤ℚ◌, whole}
use Rattle.sil_fraction.specs.Sum.{total_below}
use Rattle.sil_fraction.proofs.Laws.{le_trans, le_of_same, le-whole, zero-mul}
use Rattle.sil_fraction.proofs.Sums.{below-same}
use Rattle.sil_model.specs.Series.{Values}
use Rattle.vector_laws.specs.Vectors.{weigh}
use Rattle.vector_laws.proofs.Weighing.{weigh-below, weigh-ones}
use Rattle.place_chain.specs.PlaceChain.{IsWithin, IsGatheredFrom, at_places}
use Rattle.place_chain.proofs.Places.{below-places, below-places-le}

module _ (places v small : List ℕ) (rising : (k l : ℕ) → k < l → l < length places → get_or places k 0 < get_or places l 0)
    (below : (k : ℕ) → k < length places → get_or places k 0 < length v) (is : IsGatheredFrom places v small) where
  at-places : (f : Values ℕ) → weigh small (at_places places f) ≡ total_below (length places) (λ k. whole (get_or v (get_or places k 0) 0) *ℚ f (get_or places k 0))
  at-places f =
      weigh-below small (at_places places f)
      ∙ rw (is.number) (below-same (length places) _ _ (λ k h. ap (λ x. whole x *ℚ f (get_or places k 0)) (is.each k h)))

  pub weigh-taken : (f : Values ℕ) → weigh small (at_places places f) ≤ℚ weigh v f
  weigh-taken f =
      le_trans _ _ _ (le_of_same _ _ (at-places f))
      (le_trans _ _ _ (below-places-le (λ k. get_or places k 0) (λ i. whole (get_or v i 0) *ℚ f i) (length v) (length places) rising below)
      (le_of_same _ _ (sym (weigh-below v f))))

  pub sum-taken : sum small ≤ sum v
  sum-taken =
      le-whole _ _ (le_trans _ _ _ (le_of_same _ _ (sym (weigh-ones small)))
      (le_trans _ _ _ (weigh-taken (λ i. whole 1)) (le_of_same _ _ (weigh-ones v))))

  module _ (within : IsWithin places v) where
    pub weigh-gathered : (f : Values ℕ) → weigh small (at_places places f) ≡ weigh v f
    weigh-gathered f =
        at-places f
        ∙ sym (below-places (λ k. get_or places k 0) (λ i. whole (get_or v i 0) *ℚ f i) (length v) (length places) rising below
        (λ i h o. ap (λ x. whole x *ℚ f i) (within i h o) ∙ zero-mul (f i)))
        ∙ sym (weigh-below v f)

    pub sum-gathered : sum small ≡ sum v
    sum-gathered =
        let e : whole (sum small) ≡ whole (sum v) = sym (weigh-ones small) ∙ weigh-gathered (λ i. whole 1) ∙ weigh-ones v in
        omega (arith, le-whole _ _ (le_of_same _ _ e), le-whole _ _ (le_of_same _ _ (sym e)))
