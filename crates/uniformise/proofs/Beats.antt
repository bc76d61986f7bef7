-- The weights of a beat stay below one beat, and what they lack.
use Rattle.std.proofs.Common.{◌≡◌, ℕ, suc, ◌+◌, ◌-◌, ◌*◌, ◌^◌, ◌<◌, ◌≤◌, List, sum, refl, arith}
use Rattle.std.proofs.Math.Nat.{mul-le-mul_left, mul-le-mul_right}
use mathlib.Core.Path.{fun_ext}
use Rattle.sil_fraction.specs.Sum.{sum_below}
use Rattle.sil_fraction.proofs.Laws.{zero-add, zero-mul}
use Rattle.sil_fraction.proofs.Sums.{sum-next}
use Rattle.sil_model.specs.Series.{Values, beat_of, mean_of}
use Rattle.model_laws.specs.Polynomial.{IsBelow, in_units}
use Rattle.model_laws.proofs.Beats.{below_one_beat}
use Rattle.vector_laws.proofs.Masses.{sum-zeros}
use Rattle.vector_laws.specs.Block.{StayBelow, tail_at, IsGathered}
use Rattle.vector_laws.specs.BlockLaws.{lacking}
use Rattle.sil_model.specs.WeightTable.{weight_of, mean_weight_of, missing_of}
use Rattle.series_weights.proofs.Below.{below_term, in_units-small}
use Rattle.series_weights.proofs.Sums.{weight_zero, missing_rest, means_are_many}

pub weights_stay : (order : ℕ) → 16 ≤ order → StayBelow order weight_of 1
weights_stay order least = record {
  below = λ T t N within.
      let p : IsBelow T (in_units (2 ^ 48) weight_of) (beat_of T N) (mean_of T N) =
      below_one_beat T N (2 ^ 48) weight_of (λ n k _. in_units-small (weight_of k) n k (below_term k))
      (λ k h. rw (weight_zero k (omega arith)) (zero-mul _)) in
      record { ends = p.ends; sojourns = λ n f i. rw zero-add (p.sojourns n f i); mass = p.mass };
}

-- the weights of the mean are their tails
pub mean_is_tail : (order k : ℕ) → mean_weight_of order k ≡ tail_at (order + 1) weight_of k
unfolding mean_weight_of
mean_is_tail order k = let e : order + 1 - suc k ≡ order - k = omega arith in rw e refl

pub weights_lack : (order : ℕ) → order ≤ 40 → lacking 1 (order + 1) weight_of ≤ missing_of order
weights_lack order greatest = omega (arith, missing_rest order greatest, sum-next order weight_of)

pub means_lack : (order : ℕ) → order ≤ 40 → lacking 1 (order + 1) (tail_at (order + 1) weight_of) ≤ missing_of order + order * order
means_lack order greatest =
    let e : mean_weight_of order ≡ tail_at (order + 1) weight_of = fun_ext (mean_is_tail order) in
    rw (← e) (omega (arith, means_are_many order greatest, sum-next order (mean_weight_of order)))

-- after the last weight that is not 0, those of the mean are 0 one step before
pub mean_zero : (order terms : ℕ) → ((k : ℕ) → terms ≤ k → weight_of k ≡ 0) → (k : ℕ) → terms ≤ k + 1 → mean_weight_of order k ≡ 0
unfolding mean_weight_of
mean_zero order terms rest k h = sum-zeros (order - k) _ (λ i _. rest (suc (k + i)) (omega arith))

-- sums of vectors by weights that come to at most 1, and one product more, have room
pub room : (is_below : (Values ℕ → Values ℕ) → Type 0) (loss : ℕ) (v sums : List ℕ) (weight : ℕ → ℕ) (n w x : ℕ) → sum v ≤ 2 ^ 48
    → IsGathered is_below loss v sums weight n → sum_below n weight ≤ 2 ^ 48 → w ≤ 2 ^ 48 → x ≤ 2 ^ 48 → sum sums + w * x < 2 ^ 128
room is_below loss v sums weight n w x full gathered within small few =
    omega (arith, gathered.most, mul-le-mul_left (sum v) within, full, mul-le-mul_left w few, small)

-- the products of so many ticks, with two at each state for each, and those of the last weight
pub all_products : (last order S E a b c : ℕ) → last ≤ order → a ≤ b + last * (S * (E + 1) + 2 * S) → c ≡ a + S
    → c ≤ b + S * (order * (E + 1) + 2 * order + 1)
all_products last order S E a b c h g e = omega (arith, mul-le-mul_right (S * (E + 1) + 2 * S) h)
