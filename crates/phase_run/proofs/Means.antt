-- The mean over a phase, and hours times it, from what was dwelt in its beats.
use Rattle.std.proofs.Common.{◌≡◌, ℕ, ◌+◌, ◌*◌, ◌/◌, ◌^◌, ◌<◌, ◌≤◌, List, length, map, sum, slice_index, sym, ap, ◌∙◌, arith}
use Rattle.std.proofs.lemmas.List.{get_or-map, length-map}
use Rattle.std.proofs.Math.Nat.{mul-le-mul_left, div-mul-le_self, le_of_mul-le-mul_right}
use mathlib.Core.Path.{fun_ext}
use Rattle.sil_fraction.specs.Fraction.{◌+ℚ◌, ◌*ℚ◌, ◌≤ℚ◌, whole, inverse}
use Rattle.sil_fraction.proofs.Laws.{mul_assoc, mul_comm, le_trans, le_refl, mul-le-left}
use Rattle.sil_fraction.proofs.Sums.{add-le-add, divided, whole-positive}
use Rattle.sil_model.specs.Series.{Values}
use Rattle.vector_laws.specs.Laws.{AreFloors, IsSumWith}
use Rattle.vector_laws.specs.Vectors.{weigh}
use Rattle.vector_laws.proofs.Floors.{weigh-floor, floor-most, floor-least}
use Rattle.vector_laws.proofs.Masses.{sum-with, sum-scaled}
use Rattle.vector_laws.proofs.Weighing.{weigh-mul, weigh-scaled, weigh-sum}

-- by so many beats
module _ (v dwell : List ℕ) (beats : ℕ) (some : 0 < beats) where
  shared : (D : Values ℕ) → weigh v D *ℚ inverse (whole beats) ≡ weigh v (λ i. D i *ℚ inverse (whole beats))
  shared D = mul_comm _ _ ∙ sym (weigh-mul v (inverse (whole beats)) D) ∙ ap (weigh v) (fun_ext (λ i. mul_comm _ _))

  module _ (mean : List ℕ) (floors : AreFloors beats dwell mean) where
    pub mean_weighs : (f D : Values ℕ) → weigh dwell f ≤ℚ weigh v D → weigh mean f ≤ℚ weigh v (λ i. D i *ℚ inverse (whole beats))
    mean_weighs f D h = rw (← shared D) (divided _ _ (whole beats) (whole-positive beats some)
        (le_trans _ _ _ (weigh-floor beats some dwell mean floors f) h))

    pub mean_most : sum dwell ≤ beats * sum v → sum mean ≤ sum v
    mean_most h = le_of_mul-le-mul_right {k = beats} (omega (arith, floor-most beats some dwell mean floors)) some

    pub mean_least : (B : ℕ) → beats * sum v ≤ sum dwell + beats * beats * B → sum v ≤ sum mean + beats * B + length mean
    mean_least B h = le_of_mul-le-mul_right {k = beats} (omega (arith, floor-least beats some dwell mean floors)) some

  module _ (hours : ℕ) (old new : List ℕ) (old_long : length old ≡ length dwell) (new_long : length new ≡ length dwell)
      (added : (k : ℕ) → k < length dwell → slice_index new k ≡ slice_index old k + hours * slice_index dwell k / beats) where
    scaled : List ℕ
    scaled = map (λ n. hours * n) dwell

    scaled_weighs : (f : Values ℕ) → weigh scaled f ≡ whole hours *ℚ weigh dwell f
    unfolding scaled
    scaled_weighs f = weigh-scaled hours dwell f

    scaled_mass : sum scaled ≡ hours * sum dwell
    unfolding scaled
    scaled_mass = sum-scaled hours dwell

    floored : List ℕ
    floored = map (λ n. hours * n / beats) dwell

    floored_long : length floored ≡ length dwell
    unfolding floored
    floored_long = length-map dwell (λ n. hours * n / beats)

    floored_at : (k : ℕ) → k < length dwell → slice_index floored k ≡ hours * slice_index dwell k / beats
    unfolding floored
    floored_at k h = get_or-map (λ n. hours * n / beats) dwell k 0 0 h

    are_floors : AreFloors beats scaled floored
    unfolding scaled
    are_floors = record {
      same_length = floored_long ∙ sym (length-map dwell (λ n. hours * n));
      floor = λ k h.
          let inside : k < length dwell = omega (arith, floored_long) in
          floored_at k inside ∙ sym (ap (λ n. n / beats) (get_or-map (λ n. hours * n) dwell k 0 0 inside));
    }

    is_sum : IsSumWith 1 old floored new
    is_sum = record {
      more_length = omega (arith, floored_long);
      sums_length = omega (arith, floored_long);
      added = λ k h. let inside : k < length dwell = omega (arith, floored_long) in omega (arith, added k inside, floored_at k inside);
    }

    pub hours_weigh : (f D : Values ℕ) → weigh dwell f ≤ℚ weigh v D → weigh new f ≤ℚ weigh old f +ℚ whole hours *ℚ weigh v (λ i. D i *ℚ inverse (whole beats))
    hours_weigh f D h =
        let most : weigh floored f *ℚ whole beats ≤ℚ whole hours *ℚ weigh v D =
        le_trans _ _ _ (rw (scaled_weighs f) at (weigh-floor beats some scaled floored are_floors f)) (mul-le-left (whole hours) _ _ h) in
        let share : (whole hours *ℚ weigh v D) *ℚ inverse (whole beats) ≡ whole hours *ℚ weigh v (λ i. D i *ℚ inverse (whole beats)) =
        mul_assoc _ _ _ ∙ ap (λ s. whole hours *ℚ s) (shared D) in
        rw (weigh-sum old floored new is_sum f, ← share) (add-le-add _ _ _ _ (le_refl (weigh old f))
        (divided _ _ (whole beats) (whole-positive beats some) most))

    total : sum new ≡ sum old + 1 * sum floored
    total = sum-with 1 old floored new is_sum

    pub hours_most : sum dwell ≤ beats * sum v → sum new ≤ sum old + hours * sum v
    hours_most h =
        let all : sum floored ≤ hours * sum v =
        le_of_mul-le-mul_right {k = beats} (omega (arith, floor-most beats some scaled floored are_floors, scaled_mass, mul-le-mul_left hours h)) some in
        omega (arith, total, all)

    pub hours_least : (B : ℕ) → beats * sum v ≤ sum dwell + beats * beats * B → sum old + hours * sum v ≤ sum new + hours * (beats * B) + length old
    hours_least B h =
        let all : hours * sum v ≤ sum floored + hours * (beats * B) + length floored =
        le_of_mul-le-mul_right {k = beats} (omega (arith, floor-least beats some scaled floored are_floors, scaled_mass, mul-le-mul_left hours h)) some in
        omega (arith, total, all, floored_long)

    pub hours_grow : ((k : ℕ) → k < length dwell → slice_index dwell k ≤ beats * 2 ^ 48)
        → (k : ℕ) → k < length old → (slice_index old k ≤ slice_index new k) × (slice_index new k ≤ slice_index old k + hours * 2 ^ 48)
    hours_grow small k h =
        let inside : k < length dwell = omega arith in
        let most : hours * slice_index dwell k / beats ≤ hours * 2 ^ 48 =
        le_of_mul-le-mul_right {k = beats} (omega (arith, div-mul-le_self (hours * slice_index dwell k) beats, mul-le-mul_left hours (small k inside))) some in
        (omega (arith, added k inside), omega (arith, added k inside, most))

-- hours times a dwell has room
pub product_small : (hours x beats : ℕ) → hours ≤ 350_400 → x ≤ beats * 2 ^ 48 → beats ≤ 1_000_000 → hours * x < 2 ^ 128
product_small hours x beats short small few =
    let most : x ≤ 1_000_000 * 2 ^ 48 = omega (arith, small, few) in
    omega (arith, mul-le-mul_left hours most, short)
