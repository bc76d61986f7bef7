-- The numbers of 2^e beats stay below them.
use Rattle.std.proofs.Common.{◌≡◌, ℕ, zero, suc, ◌+◌, ◌^◌, ◌≤◌, arith}
use Rattle.std.proofs.Math.Nat.{div-mul-le_self}
use Rattle.sil_fraction.proofs.Laws.{zero-add, zero-mul}
use Rattle.sil_model.specs.Series.{Values, beat_of, mean_of}
use Rattle.model_laws.specs.Polynomial.{IsLinear, IsBelow, in_units}
use Rattle.model_laws.proofs.Beats.{below_one_beat}
use Rattle.sil_model.specs.WeightTable.{weight_of}
use Rattle.series_weights.proofs.Below.{below_term, in_units-small}
use Rattle.series_weights.proofs.Sums.{weight_zero}
use Rattle.vector_laws.specs.Block.{StayBelow}
use Rattle.beat_ladder.specs.Powers.{square_at, power_of}
use Rattle.beat_ladder.proofs.BeatSums.{IsUnder, beats-add}

power-doubled : (e : ℕ) → 2 ^ suc e ≡ 2 ^ e + 2 ^ e
power-doubled e = omega arith

module _ {I : Type 0} (T : Values I → Values I) (t : IsLinear T) (N : ℕ) (within : 16 ≤ N) where
  one_beat : IsBelow T (in_units (2 ^ 48) weight_of) (beat_of T N) (mean_of T N)
  one_beat = below_one_beat T N (2 ^ 48) weight_of (λ n k _. in_units-small (weight_of k) n k (below_term k)) (λ k h. rw (weight_zero k (omega arith)) (zero-mul _))

  -- the numbers of 2^e beats stay below them
  power_below : (e : ℕ) → IsUnder T t N (2 ^ 48) (omega arith) (power_of e) (2 ^ e)
  unfolding power_of square_at
  power_below zero = record { ends = one_beat.ends; sojourns = λ n f i. rw zero-add (one_beat.sojourns n f i); mass = one_beat.mass }
  power_below (suc e) =
      rw (power-doubled e)
      (beats-add T t N (2 ^ 48) (omega arith) (power_of e) (power_of e) (power_of (suc e)) (2 ^ e) (2 ^ e) (λ k. div-mul-le_self _ (2 ^ 48)) (power_below e) (power_below e))

pub power_stays : (e : ℕ) → StayBelow 16 (power_of e) (2 ^ e)
power_stays e = record { below = λ T t N within. power_below T t N within e }
