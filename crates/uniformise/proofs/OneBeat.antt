-- One beat of a vector: what it and the dwell weigh after it, and what they lose.
use Rattle.std.proofs.Common.{◌≡◌, ℕ, ◌+◌, ◌/◌, ◌^◌, ◌<◌, ◌≤◌, List, length, map, sum, slice_index, refl, ap, arith}
use Rattle.std.proofs.lemmas.List.{get_or-map, length-map}
use Rattle.std.proofs.Math.Nat.{mul-le-mul_left, div-mul-le_self}
use mathlib.Core.Path.{fun_ext}
use Rattle.sil_fraction.specs.Fraction.{◌+ℚ◌, ◌≤ℚ◌}
use Rattle.sil_fraction.specs.Sum.{sum_below}
use Rattle.sil_fraction.proofs.Laws.{zero-add}
use Rattle.sil_model.specs.Series.{Values}
use Rattle.sil_model.specs.Sizes.{states_of}
use Rattle.model_laws.specs.Polynomial.{IsLinear}
use Rattle.lumped_laws.specs.ValueLists.{tick_list, beat_list, mean_list}
use Rattle.lumped_laws.proofs.LinearLists.{linear_laws}
use Rattle.product_chain.specs.Kept.{ChainValue}
use Rattle.vector_laws.specs.Laws.{AreFloors, IsSumWith}
use Rattle.vector_laws.specs.Vectors.{weigh}
use Rattle.vector_laws.proofs.Masses.{place-le}
use Rattle.vector_laws.specs.Block.{IsGathered, tail_at}
use Rattle.vector_laws.specs.BlockLaws.{EndsLaw, DwellLaw}
use Rattle.vector_laws.proofs.Blocks.{ends_law, dwell_law}
use Rattle.vector_laws.proofs.Ticks.{gathered_same}
use Rattle.sil_model.specs.WeightTable.{weight_of, mean_weight_of}
use Rattle.series_weights.proofs.Sums.{means_within, mean_last, sum_weights_le}
use Rattle.sil_fraction.proofs.Sums.{sum-next}
use Rattle.uniformise.specs.Beat.{hours_of_beat, IsStep, tick_loss, vector_loss, dwell_loss}
use Rattle.uniformise.proofs.Beats.{weights_stay, mean_is_tail, weights_lack, means_lack}

-- the vector after a beat, whose loss is at most that of a beat
pub record IsEnd (c : ChainValue) (order : ℕ) (v after : List ℕ) : Type 0 where
  pub weighed : (N : ℕ) → order ≤ N → (f : Values ℕ) → weigh after f ≤ℚ weigh v (beat_list c.of.subsystems N (hours_of_beat c) f)
  pub most : sum after ≤ sum v
  pub least : sum v ≤ sum after + vector_loss c.of.subsystems order

-- a dwell to which the mean during a beat was added
pub record IsDwell (c : ChainValue) (order : ℕ) (v old new : List ℕ) : Type 0 where
  pub weighed : (N : ℕ) → order ≤ N → (f : Values ℕ) → weigh new f ≤ℚ weigh old f +ℚ weigh v (mean_list c.of.subsystems N (hours_of_beat c) f)
  pub most : sum new ≤ sum old + sum v
  pub least : sum old + sum v ≤ sum new + dwell_loss c.of.subsystems order
  pub grows : (k : ℕ) → k < length old → (slice_index old k ≤ slice_index new k) × (slice_index new k ≤ slice_index old k + 2 ^ 48)

module _ (c : ChainValue) (order : ℕ) (from : 16 ≤ order) (upto : order ≤ 40) (v : List ℕ) (full : sum v ≤ 2 ^ 48) where
  abbrev Gathered : List ℕ → (ℕ → ℕ) → Type 0
  Gathered sums weight = IsGathered (IsStep c) (tick_loss c.of.subsystems) v sums weight (order + 1)

  abbrev step : Values ℕ → Values ℕ
  step f = tick_list c.of.subsystems (hours_of_beat c) f

  linear : IsLinear step
  linear = (linear_laws c.of.subsystems).tick (hours_of_beat c)

  -- no sum is above 1
  pub sums_small : (sums : List ℕ) → Gathered sums weight_of → (k : ℕ) → k < length sums → slice_index sums k ≤ 2 ^ 96
  sums_small sums gathered k h =
      let all : sum_below (order + 1) weight_of ≤ 2 ^ 48 = sum_weights_le (order + 1) (omega arith) in
      omega (arith, place-le sums k, gathered.most, mul-le-mul_left (sum v) all, full)

  -- the vector, rounded down from its sums
  pub end_of_beat : (sums after : List ℕ) → Gathered sums weight_of → AreFloors (2 ^ 48) sums after → length after ≡ states_of c.of.subsystems
      → IsEnd c order v after
  end_of_beat sums after gathered floors size =
      let law : EndsLaw (IsStep c) (tick_loss c.of.subsystems) order 1 (order + 1) weight_of v sums after =
      ends_law (IsStep c) (tick_loss c.of.subsystems) v order 1 (order + 1) weight_of (weights_stay order from) sums after gathered floors in
      record {
        weighed = λ N within f. law.weighed.weighed step linear refl N within f;
        most = law.most;
        least = omega (arith, law.least full, weights_lack order upto, size);
      }

  -- the dwell, to which its sums were added, rounded down
  module _ (sums old new : List ℕ) (gathered : Gathered sums (mean_weight_of order)) (old_long : length old ≡ length sums)
      (new_long : length new ≡ length old)
      (added : (k : ℕ) → k < length sums → slice_index new k ≡ slice_index old k + slice_index sums k / 2 ^ 48) where
    floored : List ℕ
    floored = map (λ n. n / 2 ^ 48) sums

    floored_long : length floored ≡ length sums
    unfolding floored
    floored_long = length-map sums (λ n. n / 2 ^ 48)

    floored_at : (k : ℕ) → k < length sums → slice_index floored k ≡ slice_index sums k / 2 ^ 48
    unfolding floored
    floored_at k h = get_or-map (λ n. n / 2 ^ 48) sums k 0 0 h

    are_floors : AreFloors (2 ^ 48) sums floored
    are_floors = record { same_length = floored_long; floor = λ k h. floored_at k (omega (arith, floored_long)) }

    is_sum : IsSumWith 1 old floored new
    is_sum = record {
      more_length = omega (arith, floored_long);
      sums_length = omega (arith, floored_long);
      added = λ k h. let inside : k < length sums = omega (arith, floored_long) in omega (arith, added k inside, floored_at k inside);
    }

    tails : Gathered sums (tail_at (order + 1) weight_of)
    tails = gathered_same (IsStep c) (tick_loss c.of.subsystems) v sums (mean_weight_of order) (tail_at (order + 1) weight_of) (order + 1)
        (λ k _. mean_is_tail order k) gathered

    dwells : DwellLaw (IsStep c) (tick_loss c.of.subsystems) order 1 (order + 1) weight_of v sums floored old new
    dwells = dwell_law (IsStep c) (tick_loss c.of.subsystems) v order 1 (order + 1) weight_of
        (weights_stay order from) sums floored old new tails are_floors is_sum

    weighed : (N : ℕ) → order ≤ N → (f : Values ℕ) → weigh new f ≤ℚ weigh old f +ℚ weigh v (mean_list c.of.subsystems N (hours_of_beat c) f)
    weighed N within f =
        rw (ap (weigh v) (fun_ext (λ i. zero-add (mean_list c.of.subsystems N (hours_of_beat c) f i)))) at
        (dwells.weighed.weighed step linear refl N within f)

    -- no number grows by more than 1
    grows : (k : ℕ) → k < length old → (slice_index old k ≤ slice_index new k) × (slice_index new k ≤ slice_index old k + 2 ^ 48)
    grows k h =
        let all : sum_below (order + 1) (mean_weight_of order) ≤ 2 ^ 48 =
        omega (arith, sum-next order (mean_weight_of order), mean_last order order (omega arith), means_within order order upto (omega arith)) in
        let small : slice_index sums k ≤ 2 ^ 96 = omega (arith, place-le sums k, gathered.most, mul-le-mul_left (sum v) all, full) in
        (omega (arith, added k (omega arith)), omega (arith, added k (omega arith), div-mul-le_self (slice_index sums k) (2 ^ 48), small))

    pub dwell_of_beat : length old ≡ states_of c.of.subsystems → IsDwell c order v old new
    dwell_of_beat size = record {
      weighed = weighed;
      most = omega (arith, dwells.most);
      least = omega (arith, dwells.least full, means_lack order upto, size);
      grows = grows;
    }
