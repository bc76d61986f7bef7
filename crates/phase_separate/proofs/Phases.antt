-- All beats of a phase, each subsystem for itself: what its vector and its dwell become.
use Rattle.std.proofs.Common.{◌≡◌, ℕ, ◌+◌, ◌-◌, ◌*◌, ◌<◌, ◌≤◌, List, length, map, sum, slice_index, ap, ◌∙◌, arith}
use Rattle.std.proofs.lemmas.List.{length-map}
use Rattle.std.proofs.Math.Nat.{mul-le-mul_left}
use Rattle.sil_fraction.specs.Fraction.{◌+ℚ◌, ◌*ℚ◌, ◌≤ℚ◌, whole}
use Rattle.sil_fraction.proofs.Laws.{zero-add, mul_comm, mul-le-right, le_trans}
use Rattle.sil_model.specs.Series.{Values}
use Rattle.sil_model.specs.Sizes.{states_of}
use Rattle.lumped_laws.specs.ValueLists.{tick_list, mean_list}
use Rattle.vector_laws.specs.Laws.{AreFloors}
use Rattle.vector_laws.specs.Vectors.{weigh, IsMass}
use Rattle.vector_laws.proofs.Floors.{weigh-floor, floor-most, floor-least}
use Rattle.vector_laws.proofs.Masses.{sum-none, sum-scaled, place-le}
use Rattle.vector_laws.proofs.Weighing.{weigh-none, weigh-scaled}
use Rattle.product_chain.specs.Kept.{ChainValue}
use Rattle.uniformise.specs.Beat.{hours_of_beat, dwell_loss}
use Rattle.phase_run.specs.Passes.{Passes, block_beat_loss}
use Rattle.separate_laws.specs.Laws.{SeparateLaw}
use Rattle.phase_separate.specs.Ends.{IsAtEnd, IsSumOfStarts, IsDwelling}
use Rattle.phase_separate.specs.Losses.{LoseLittle}
use Rattle.phase_separate.specs.Passes.{PassesAlong, IsVisited, IsLowered}
use Rattle.phase_separate.specs.Subsystems.{steps_at, matrix_loss}
use Rattle.phase_separate.proofs.Ends.{end_weighs, sum_weighs}
use Rattle.phase_separate.proofs.Losses as losses
use Rattle.phase_separate.proofs.Lowered.{lowered_most}

-- what is lowered stays below the beats of the loop, by a law of its separate beats
module _ (c : ChainValue) (law : SeparateLaw (states_of c.of.subsystems) (tick_list c.of.subsystems (hours_of_beat c)) (steps_at c)) (m : ℕ)
    (little : LoseLittle c.of.subsystems m) (start : List ℕ) (long : length start ≡ states_of c.of.subsystems) (mass : IsMass start) where
  few : m ≤ 1_000_000
  few = omega (arith, little.few)

  -- the vector at the end
  pub at_end : (a b later : List ℕ) → PassesAlong c m start a → PassesAlong c 16 a b
      → IsLowered m ((sum start - sum a) + (sum start - sum b) + 16 * 1 * (m + 16)) a b later → IsAtEnd c m start later
  at_end a b later passed more lowered =
      let first : sum start ≤ sum a + m * matrix_loss c.of.subsystems + length c.of.subsystems * states_of c.of.subsystems =
      omega (arith, passed.lack 1 (omega arith)) in
      let second : sum a ≤ sum b + 16 * matrix_loss c.of.subsystems + length c.of.subsystems * states_of c.of.subsystems =
      omega (arith, more.lack 1 (omega (arith, passed.kept))) in
      record {
        weighed =
            end_weighs _ _ _ law start long mass m few a b (passed.size ∙ long) (more.size ∙ passed.size ∙ long) passed.weighed more.weighed later lowered;
        kept = omega (arith, lowered_most m _ a b later lowered, passed.kept);
        lack =
            losses.end_lack c.of.subsystems m little (sum start) mass a b later (passed.size ∙ long) more.size passed.kept first more.kept second lowered;
      }

  -- the vectors at the start of each beat
  pub sum_of_starts : (w z sums : List ℕ) → IsVisited c m start w → PassesAlong c 16 w z
      → IsLowered m ((m * sum start - sum w) + (m * sum start - sum z) + 16 * m * (m + 16)) w z sums → IsSumOfStarts c m start sums
  sum_of_starts w z sums visited more lowered =
      let third : sum w ≤ sum z + m * (16 * matrix_loss c.of.subsystems) + length c.of.subsystems * states_of c.of.subsystems =
      more.lack m (omega (arith, visited.kept, mul-le-mul_left m mass)) in
      record {
        size = lowered.size ∙ visited.size;
        weighed =
            sum_weighs _ _ _ law start long mass m little.some few w z (visited.size ∙ long) (more.size ∙ visited.size ∙ long) visited.weighed
            more.weighed sums lowered;
        kept = omega (arith, lowered_most m _ w z sums lowered, visited.kept);
        lack =
            losses.sum_lack c.of.subsystems m little (sum start) mass w z sums (visited.size ∙ long) more.size visited.kept visited.lack more.kept third
            lowered;
      }

-- what is dwelt in m beats is m times what is dwelt in a beat by the mean of the vectors at their starts, from a dwell of nothing on
module _ (c : ChainValue) (m : ℕ) (some : 0 < m) (sums mean zeros dwelt dwell : List ℕ) (long : length sums ≡ states_of c.of.subsystems)
    (floors : AreFloors m sums mean) (blank : length zeros ≡ states_of c.of.subsystems) (none : (k : ℕ) → k < length zeros → slice_index zeros k ≡ 0)
    (size : length dwelt ≡ length zeros)
    (dwells : (N : ℕ) → 16 ≤ N → (f : Values ℕ) → weigh dwelt f ≤ℚ weigh zeros f +ℚ weigh mean (mean_list c.of.subsystems N (hours_of_beat c) f))
    (most : sum dwelt ≤ sum zeros + sum mean) (least : sum zeros + sum mean ≤ sum dwelt + dwell_loss c.of.subsystems 16)
    (scaled : dwell ≡ map (λ n. m * n) dwelt) where
  dwell_mass : sum dwell ≡ m * sum dwelt
  dwell_mass = ap sum scaled ∙ sum-scaled m dwelt

  dwell_weighs : (N : ℕ) → 16 ≤ N → (f : Values ℕ) → weigh dwell f ≤ℚ weigh sums (mean_list c.of.subsystems N (hours_of_beat c) f)
  dwell_weighs N within f =
      let M : Values ℕ = mean_list c.of.subsystems N (hours_of_beat c) f in
      let one : weigh dwelt f ≤ℚ weigh mean M = rw (weigh-none zeros none f, zero-add) at (dwells N within f) in
      let all : weigh dwelt f *ℚ whole m ≤ℚ weigh mean M *ℚ whole m = mul-le-right _ _ (whole m) one in
      let same : weigh dwell f ≡ weigh dwelt f *ℚ whole m = ap (λ d. weigh d f) scaled ∙ weigh-scaled m dwelt f ∙ mul_comm _ _ in
      rw same (le_trans _ _ _ all (weigh-floor m some sums mean floors M))

  dwell_most : sum dwell ≤ sum sums
  dwell_most =
      let one : sum dwelt ≤ sum mean = omega (arith, most, sum-none zeros none) in
      let all : m * sum dwelt ≤ m * sum mean = mul-le-mul_left m one in
      omega (arith, dwell_mass, all, floor-most m some sums mean floors)

  dwell_least : sum sums ≤ sum dwell + m * dwell_loss c.of.subsystems 16 + m * states_of c.of.subsystems
  dwell_least =
      let one : sum mean ≤ sum dwelt + dwell_loss c.of.subsystems 16 = omega (arith, least) in
      let all : m * sum mean ≤ m * (sum dwelt + dwell_loss c.of.subsystems 16) = mul-le-mul_left m one in
      let sizes : length mean ≡ states_of c.of.subsystems = floors.same_length ∙ long in
      omega (arith, dwell_mass, all, rw sizes at (floor-least m some sums mean floors))

  pub is_dwelling : IsDwelling c m sums dwell
  is_dwelling = record {
    size = ap length scaled ∙ length-map dwelt (λ n. m * n) ∙ omega arith;
    weighed = dwell_weighs;
    kept = dwell_most;
    lack = dwell_least;
  }

-- all of it together
pub phase_passes : (c : ChainValue) (m : ℕ) → LoseLittle c.of.subsystems m → (start later sums zeros dwell : List ℕ) → IsMass start
    → length start ≡ length zeros → ((k : ℕ) → k < length zeros → slice_index zeros k ≡ 0) → IsAtEnd c m start later → IsSumOfStarts c m start sums
    → IsDwelling c m sums dwell → Passes c 16 (block_beat_loss c.of.subsystems) m start later zeros dwell
phase_passes c m little start later sums zeros dwell mass blank none at_end starts dwelling = record {
  size = omega (arith, dwelling.size, starts.size);
  ended = record { weighed = λ T t e N within f. rw e (at_end.weighed N within f) };
  dwelt = record {
    weighed = λ T t e N within f.
        rw (e, weigh-none zeros none f, zero-add)
        (le_trans _ _ _ (dwelling.weighed N within f) (starts.weighed N within (mean_list c.of.subsystems N (hours_of_beat c) f)));
  };
  kept = at_end.kept;
  lack = at_end.lack;
  dwell_kept = omega (arith, dwelling.kept, starts.kept);
  dwell_lack = omega (arith, losses.dwell_lack c.of.subsystems m little (sum start) sums dwell starts.lack dwelling.lack, sum-none zeros none);
  grows = λ k h. (
    omega (arith, none k h),
    omega (arith, place-le dwell k, dwelling.kept, starts.kept, mul-le-mul_left m mass),
  );
}
