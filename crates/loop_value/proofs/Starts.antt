-- The vector and the dwell at the start of a mission.
use Rattle.std.proofs.Common.{◌≡◌, ℕ, ◌+◌, ◌^◌, ◌<◌, List, length, sum, get_or, set, replicate, refl, ap, ◌∙◌, arith}
use Rattle.std.proofs.lemmas.List.{get_or-replicate, length-replicate}
use Rattle.sil_fraction.specs.Fraction.{◌+ℚ◌, ◌*ℚ◌, whole}
use Rattle.sil_fraction.proofs.Laws.{zero-add}
use Rattle.sil_model.specs.Series.{Values}
use Rattle.sil_model.specs.LoopValue.{LoopValue}
use Rattle.vector_laws.specs.Vectors.{weigh}
use Rattle.vector_laws.proofs.Masses.{sum-none, sum-more}
use Rattle.vector_laws.proofs.Weighing.{weigh-none, weigh-more}
use Rattle.mission_laws.proofs.Losses.{none_lost}
use Rattle.mission_laws.proofs.UnderWay.{at_start}
use Rattle.mission_laws.proofs.Arrived.{arrival_laws}
use Rattle.loop_value.specs.Mission.{HasReached, greatest_of}

module _ (size : ℕ) (some : 0 < size) where
  abbrev blank : List ℕ
  blank = replicate size 0

  none : (k : ℕ) → k < length blank → get_or blank k 0 ≡ 0
  none k h = let e : length blank ≡ size = length-replicate size 0 in get_or-replicate size k 0 0 (rw e at h)

  one_at_first : set blank 0 (2 ^ 48) ≡ set blank 0 (get_or blank 0 0 + 2 ^ 48)
  one_at_first = let e : get_or blank 0 0 ≡ 0 = get_or-replicate size 0 0 0 some in rw e refl

  first : 0 < length blank
  first = let e : length blank ≡ size = length-replicate size 0 in rw e some

  weighs_first : (f : Values ℕ) → weigh (set blank 0 (2 ^ 48)) f ≡ whole (2 ^ 48) *ℚ f 0
  weighs_first f =
      ap (λ (v : List ℕ). weigh v f) one_at_first ∙ weigh-more blank 0 (2 ^ 48) f first
      ∙ ap (λ x. x +ℚ whole (2 ^ 48) *ℚ f 0) (weigh-none blank none f) ∙ zero-add _

  sum_first : sum (set blank 0 (2 ^ 48)) ≡ 2 ^ 48
  sum_first = ap (λ (v : List ℕ). sum v) one_at_first ∙ sum-more blank 0 (2 ^ 48) first ∙ ap (λ s. s + 2 ^ 48) (sum-none blank none)

  pub reached_start : (l : LoopValue) (order : ℕ) → HasReached l order 0 blank (set blank 0 (2 ^ 48)) 0 0
  reached_start l order = record {
    under_way = at_start l order (greatest_of l) blank (set blank 0 (2 ^ 48)) (weigh-none blank none) weighs_first;
    lost = none_lost l order blank (set blank 0 (2 ^ 48)) (sum-none blank none) sum_first;
    few = omega arith;
    arrived = (arrival_laws l).first order (set blank 0 (2 ^ 48)) weighs_first;
  }
