-- A ladder grows rung by rung, from one beat on.
use Rattle.std.proofs.Common.{◌≡◌, ℕ, ◌+◌, ◌-◌, ◌*◌, ◌^◌, ◌<◌, ◌≤◌, List, [], ◌∷◌, ◌++◌, length, sum, length-append, refl, arith, inl, inr}
use Rattle.std.proofs.lemmas.Bool.{cases_lt}
use Rattle.std.proofs.lemmas.List.{get_or_append_left}
use Rattle.std.proofs.Math.Seq.{get_or-append_seam}
use Rattle.sil_fraction.specs.Sum.{sum_below}
use Rattle.sil_model.specs.WeightTable.{weight_of}
use Rattle.beat_ladder.specs.Powers.{power_of, HoldsPower, HoldTails, IsClose}
use Rattle.beat_ladder.specs.Rungs.{IsUsable, AreRungs}
use Rattle.beat_ladder.specs.declared.rung.Rung.{Rung}
use Rattle.beat_ladder.proofs.Rungs.{held_sum, dwelt_is}

-- the numbers of one beat
last_weight : power_of 0 16 ≡ 4
unfolding power_of weight_of
last_weight = refl

all_weights : sum_below 17 (power_of 0) ≡ 2 ^ 48 - 9
unfolding sum_below power_of weight_of
all_weights = refl

all_steps : sum_below 17 (λ k. power_of 0 k * k) ≡ 2 ^ 48 - 74
unfolding sum_below power_of weight_of
all_steps = refl

-- the rung of one beat may be used
one_close : (low : ℕ) (numbers tails : List ℕ) → HoldsPower 0 low numbers → HoldTails numbers tails → IsClose 0 low numbers tails
one_close low numbers tails held tailed =
    let many : low + length numbers ≡ 17 = elim (cases_lt 16 (low + length numbers)) [
      | inl h ↦ omega (arith, held.few)
      | inr h ↦ absurd (let e : power_of 0 16 ≡ 0 = held.after 16 h in omega (arith, last_weight))
    ] in
    let s : sum numbers ≡ sum_below 17 (power_of 0) = rw many at (held_sum 0 low numbers held) in
    let d : sum_below 17 (λ k. power_of 0 k * k) ≡ low * sum numbers + sum tails = rw many at (dwelt_is 0 low numbers held tails tailed) in
    record { ends = omega (arith, s, all_weights); stays = omega (arith, d, all_steps) }

one_close_as : (x low : ℕ) (numbers tails : List ℕ) → x ≡ 0 → HoldsPower x low numbers → HoldTails numbers tails → IsClose x low numbers tails
one_close_as x low numbers tails e held tailed = rw e (one_close low numbers tails (rw e at held) tailed)

usable_one : (r : Rung) → r.exponent ≡ 0 → IsUsable r
usable_one r e = one_close_as r.exponent r.low r.numbers.items r.tails.items e r.held r.tailed

-- one rung
pub one_rung : (r : Rung) → r.exponent ≡ 0 → AreRungs (r ∷ [])
one_rung r e = record {
  few = omega arith;
  exponents = λ k other h. let z : k ≡ 0 = omega arith in rw z e;
  usable = λ k other h. let z : k ≡ 0 = omega arith in rw z (usable_one r e);
}

-- and one more
pub rung_more : (rungs : List Rung) (r : Rung) → length rungs ≤ 12 → AreRungs rungs → r.exponent ≡ length rungs → IsUsable r → AreRungs (rungs ++ r ∷ [])
rung_more rungs r few held e usable = record {
  few = rw length-append (omega (arith, few));
  exponents = λ k other h. elim (cases_lt k (length rungs)) [
    | inl g ↦ rw (get_or_append_left rungs (r ∷ []) other k g) (held.exponents k other g)
    | inr g ↦ let z : k ≡ length rungs = last k h g in rw (z, get_or-append_seam rungs r [] other) e
  ];
  usable = λ k other h. elim (cases_lt k (length rungs)) [
    | inl g ↦ rw (get_or_append_left rungs (r ∷ []) other k g) (held.usable k other g)
    | inr g ↦ let z : k ≡ length rungs = last k h g in rw (z, get_or-append_seam rungs r [] other) usable
  ];
}
  where
    last : (k : ℕ) → k < length (rungs ++ r ∷ []) → length rungs ≤ k → k ≡ length rungs
    last k h g = let n : k < length rungs + 1 = rw length-append at h in omega arith
