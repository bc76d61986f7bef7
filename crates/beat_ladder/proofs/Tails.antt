-- The weights of the dwell: for each number of ticks, the sum of the numbers above it.
use Rattle.std.proofs.Common.{◌≡◌, ℕ, suc, ◌+◌, ◌-◌, ◌*◌, ◌^◌, ◌<◌, ◌≤◌, List, length, sum, slice_index, sym, ap, ◌∙◌, arith}
use Rattle.std.proofs.Math.Nat.{mul-le-mul_left, mul-le-mul_right}
use Rattle.sil_fraction.specs.Sum.{sum_below}
use Rattle.sil_fraction.proofs.Sums.{sum-same, sum-append}
use Rattle.sil_model.specs.Series.{Values}
use Rattle.vector_laws.proofs.Masses.{sum_of, sum-zeros, place-le}
use Rattle.vector_laws.specs.Block.{tail_at, IsGathered}
use Rattle.vector_laws.proofs.Moments.{mass_within}
use Rattle.vector_laws.proofs.Sums.{tails-sum}
use Rattle.beat_ladder.specs.Powers.{power_of, at_place, HoldsPower, HoldTails, IsClose}
use Rattle.beat_ladder.proofs.Powers.{power_stays}
use Rattle.beat_ladder.proofs.Lists.{sum_of-drop}
use Rattle.beat_ladder.proofs.Rungs.{beats-le, from_low, held_mass, dwelt_is, dwelt_within}

module _ (e low : ℕ) (numbers tails : List ℕ) (held : HoldsPower e low numbers) (tailed : HoldTails numbers tails) where
  -- the tails of the numbers of 2^e beats
  abbrev pub tail : ℕ → ℕ
  tail k = tail_at (low + length numbers) (power_of e) k

  -- below `low` each is the sum of all numbers
  pub tail-early : (k : ℕ) → k < low → tail k ≡ sum numbers
  tail-early k h =
      let d : ℕ = low - suc k in
      let f : ℕ → ℕ = λ i. power_of e (suc (k + i)) in
      let many : low + length numbers - suc k ≡ d + length numbers = omega arith in
      let none : sum_below d f ≡ 0 = sum-zeros d f (λ i p. held.before (suc (k + i)) (omega arith)) in
      let each : (i : ℕ) → i < length numbers → f (d + i) ≡ at_place numbers i =
      λ i p. let g : suc (k + (d + i)) ≡ low + i = omega arith in ap (power_of e) g ∙ from_low e low numbers held i in
      rw many
      (omega (
        arith,
        sum-append d (length numbers) f,
        none,
        sum-same (length numbers) (λ i. f (d + i)) (at_place numbers) each,
        sum_of numbers,
      ))

  -- and from there on those of the list
  pub tail-late : (k : ℕ) → k < length numbers → tail (low + k) ≡ slice_index tails k
  tail-late k h =
      let many : low + length numbers - suc (low + k) ≡ length numbers - suc k = omega arith in
      let each : (i : ℕ) → i < length numbers - suc k → power_of e (suc (low + k + i)) ≡ at_place numbers (suc (k + i)) =
      λ i p. let g : suc (low + k + i) ≡ low + suc (k + i) = omega arith in ap (power_of e) g ∙ from_low e low numbers held (suc (k + i)) in
      rw many (sum-same (length numbers - suc k) _ _ each) ∙ sym (tailed.holds k h ∙ sum_of-drop numbers k)

  -- the last is 0
  pub tail-last : (k : ℕ) → k + 1 ≡ low + length numbers → tail k ≡ 0
  tail-last k h = let none : low + length numbers - suc k ≡ 0 = omega arith in rw none (sum-zeros 0 _ (λ i p. absurd (omega arith)))

  pub tail-total : sum_below (low + length numbers) tail ≡ low * sum numbers + sum tails
  tail-total =
      tails-sum (low + length numbers) (power_of e)
      ∙ sum-same (low + length numbers) _ _ (λ k _. omega arith)
      ∙ dwelt_is e low numbers held tails tailed

  pub tail-within : (m : ℕ) → m ≤ low + length numbers → sum_below m tail ≤ 2 ^ e * 2 ^ 48
  tail-within m h =
      let g : m + (low + length numbers - m) ≡ low + length numbers = omega arith in
      let s : sum_below (low + length numbers) tail ≡ sum_below m tail + sum_below (low + length numbers - m) (λ k. tail (m + k)) =
      rw g at (sum-append m (low + length numbers - m) tail) in
      omega (arith, s, tail-total, dwelt_within e low numbers held tails tailed)

  -- few ticks are made before the first number
  pub low_few : e ≤ 12 → IsClose e low numbers tails → low ≤ 2 ^ 13
  low_few few close =
      let many : 2 ^ 47 ≤ sum numbers = omega (arith, close.ends, beats-le e few) in
      omega (arith, mul-le-mul_left low many, dwelt_within e low numbers held tails tailed, beats-le e few)

  -- room for the sums of the block
  module _ (is_below : (Values ℕ → Values ℕ) → Type 0) (loss : ℕ) (v : List ℕ) (mass : sum v ≤ 2 ^ 48) where
    pub ends_room : (sums : List ℕ) (m : ℕ) → IsGathered is_below loss v sums (power_of e) m → sum sums ≤ 2 ^ 96
    ends_room sums m gathered =
        let within : sum_below m (power_of e) ≤ 2 ^ 48 = mass_within 16 (2 ^ e) (power_of e) (power_stays e) m in
        omega (arith, gathered.most, mul-le-mul_left (sum v) within, mass)

    pub stays_room : (sums : List ℕ) (m : ℕ) → e ≤ 12 → m ≤ low + length numbers → IsGathered is_below loss v sums tail m → sum sums ≤ 2 ^ 108
    stays_room sums m few h gathered =
        let within : sum_below m tail ≤ 2 ^ 60 = omega (arith, tail-within m h, beats-le e few) in
        omega (arith, gathered.most, mul-le-mul_left (sum v) within, mass)

  -- the weight of a number, times a vector
  pub number_room : (w x k : ℕ) → w ≡ slice_index numbers k → x ≤ 2 ^ 48 → w * x ≤ 2 ^ 96
  number_room w x k g h =
      let small : slice_index numbers k ≤ 2 ^ 48 = omega (arith, place-le numbers k, held_mass e low numbers held) in
      rw g (omega (arith, mul-le-mul_right x small))

  pub tail_room : (w x k : ℕ) → e ≤ 12 → w ≡ slice_index tails k → x ≤ 2 ^ 48 → w * x ≤ 2 ^ 108
  tail_room w x k few g h =
      let small : slice_index tails k ≤ 2 ^ 60 = omega (arith, place-le tails k, dwelt_within e low numbers held tails tailed, beats-le e few) in
      rw g (omega (arith, mul-le-mul_right x small))
