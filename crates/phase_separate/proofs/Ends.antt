-- Vectors by separate beats, made a little smaller: they stay below the beats of the whole.
use Rattle.std.proofs.Common.{◌≡◌, ℕ, zero, suc, ◌+◌, ◌-◌, ◌*◌, ◌^◌, ◌<◌, ◌≤◌, List, length, sum, ap, ◌∙◌, arith}
use Rattle.std.proofs.Math.Nat.{mul-le-mul_left}
use mathlib.Core.Path.{fun_ext}
use Rattle.sil_fraction.specs.Fraction.{◌*ℚ◌, ◌+ℚ◌, ◌≤ℚ◌, whole}
use Rattle.sil_fraction.specs.Sum.{total_below, sum_below}
use Rattle.sil_fraction.proofs.Laws.{zero-add, zero-mul, one-mul, le_trans}
use Rattle.sil_fraction.proofs.Sums.{below-same, below-constant, mul-zero}
use Rattle.sil_model.specs.Series.{Values, times, beat_of}
use Rattle.vector_laws.specs.Vectors.{weigh}
use Rattle.vector_laws.proofs.Masses.{sum-constant, sum-zeros}
use Rattle.separate_laws.specs.Separate.{separate_beats, expected_over, all_over, IsBelowSeparate}
use Rattle.separate_laws.specs.Laws.{SeparateLaw}
use Rattle.phase_separate.specs.Passes.{IsLowered}
use Rattle.phase_separate.proofs.Lowered.{is_reduced}

-- the last of some numbers of beats alone
module _ (m : ℕ) where
  last : ℕ → ℕ
  last j = 1 - (m - j)

  before_last : (j : ℕ) → j < m → last j ≡ 0
  unfolding last
  before_last j h = omega arith

  at_last : last m ≡ 1
  unfolding last
  at_last = omega arith

  last_once : all_over m last ≡ 1
  unfolding sum_below
  last_once = let none : sum_below m last ≡ 0 = sum-zeros m last before_last in omega (arith, none, at_last)

  last_expected : (g : ℕ → Values ℕ → Values ℕ) (f : Values ℕ) (i : ℕ) → expected_over m last g f i ≡ g m f i
  last_expected g f i =
      let none : total_below m (λ j. whole (last j) *ℚ g j f i) ≡ whole 0 =
      below-same m _ (λ j. whole 0) (λ j h. ap (λ x. whole x *ℚ g j f i) (before_last j h) ∙ zero-mul (g j f i))
      ∙ below-constant m (whole 0) ∙ mul-zero (whole m) in
      ap (λ s. s +ℚ whole (last m) *ℚ g m f i) none ∙ zero-add _ ∙ ap (λ x. whole x *ℚ g m f i) at_last ∙ one-mul (g m f i)

-- each of them once
each : ℕ → ℕ
each j = 1

module _ (k : ℕ) where
  each_over : all_over k each ≡ suc k
  unfolding each
  each_over = sum-constant (suc k) 1 ∙ omega arith

  each_expected : (g : ℕ → Values ℕ → Values ℕ) (f : Values ℕ) (i : ℕ) → expected_over k each g f i ≡ total_below (suc k) (λ j. g j f i)
  unfolding each
  each_expected g f i = below-same (suc k) _ (λ j. g j f i) (λ j h. one-mul (g j f i))

-- by a law of separate beats
module _ (n : ℕ) (T : Values ℕ → Values ℕ) (Ps : List (Values ℕ → Values ℕ)) (law : SeparateLaw n T Ps) (v : List ℕ) (long : length v ≡ n)
    (mass : sum v ≤ 2 ^ 48) where
  -- where the vector is wanted after m beats
  module _ (m : ℕ) (few : m ≤ 1_000_000) (a b : List ℕ) (long_a : length a ≡ n) (long_b : length b ≡ n)
      (weighs_a : (N : ℕ) → 16 ≤ N → (f : Values ℕ) → weigh a f ≤ℚ weigh v (separate_beats Ps N m f))
      (weighs_b : (N : ℕ) → 16 ≤ N → (f : Values ℕ) → weigh b f ≤ℚ weigh a (separate_beats Ps N 16 f)) where
    below_end : (more : ℕ) (w : List ℕ) → ((N : ℕ) → 16 ≤ N → (f : Values ℕ) → weigh w f ≤ℚ weigh v (separate_beats Ps N (m + more) f))
        → IsBelowSeparate m (last m) Ps more v w
    below_end more w h = record {
      weighed = λ N within f.
          rw (ap (weigh v) (fun_ext (last_expected m (λ j. separate_beats Ps N (j + more)) f))) (h N within f);
    }

    sixteen_on : (N : ℕ) → 16 ≤ N → (f : Values ℕ) → weigh b f ≤ℚ weigh v (separate_beats Ps N (m + 16) f)
    sixteen_on N within f = rw (law.passes N m 16 f) (le_trans _ _ _ (weighs_b N within f) (weighs_a N within (separate_beats Ps N 16 f)))

    no_more : m + 0 ≡ m
    no_more = omega arith

    pub end_weighs : (out : List ℕ) → IsLowered m ((sum v - sum a) + (sum v - sum b) + 16 * 1 * (m + 16)) a b out
        → (N : ℕ) → 16 ≤ N → (f : Values ℕ) → weigh out f ≤ℚ weigh v (times (beat_of T N) m f)
    end_weighs out h N within f =
        let below_a : IsBelowSeparate m (last m) Ps 0 v a = below_end 0 a (rw no_more weighs_a) in
        let below_b : IsBelowSeparate m (last m) Ps 16 v b = below_end 16 b sixteen_on in
        rw (ap (weigh v) (fun_ext (last_expected m (times (beat_of T N)) f))) at
        (law.reduced m (last m) v a b out few mass long long_a long_b below_a below_b
        (is_reduced m _ a b out h m (last m) v (omega arith) (rw (last_once m) (omega arith))) N within f)

  -- where the sum of the vectors at the start of each of m beats is wanted
  module _ (k : ℕ) (few : k ≤ 1_000_000) (w z : List ℕ) (long_w : length w ≡ n) (long_z : length z ≡ n)
      (weighs_w : (N : ℕ) → 16 ≤ N → (f : Values ℕ) → weigh w f ≤ℚ weigh v (λ i. total_below (suc k) (λ j. separate_beats Ps N j f i)))
      (weighs_z : (N : ℕ) → 16 ≤ N → (f : Values ℕ) → weigh z f ≤ℚ weigh w (separate_beats Ps N 16 f)) where
    below_sum : (more : ℕ) (u : List ℕ)
        → ((N : ℕ) → 16 ≤ N → (f : Values ℕ) → weigh u f ≤ℚ weigh v (λ i. total_below (suc k) (λ j. separate_beats Ps N (j + more) f i)))
        → IsBelowSeparate k each Ps more v u
    below_sum more u h = record {
      weighed = λ N within f.
          rw (ap (weigh v) (fun_ext (each_expected k (λ j. separate_beats Ps N (j + more)) f))) (h N within f);
    }

    sum_sixteen_on : (N : ℕ) → 16 ≤ N → (f : Values ℕ)
        → weigh z f ≤ℚ weigh v (λ i. total_below (suc k) (λ j. separate_beats Ps N (j + 16) f i))
    sum_sixteen_on N within f =
        let same : (j : ℕ) → separate_beats Ps N (j + 16) f ≡ separate_beats Ps N j (separate_beats Ps N 16 f) = λ j. law.passes N j 16 f in
        let all : (i : ℕ) → total_below (suc k) (λ j. separate_beats Ps N (j + 16) f i)
        ≡ total_below (suc k) (λ j. separate_beats Ps N j (separate_beats Ps N 16 f) i) =
        λ i. below-same (suc k) _ _ (λ j h. ap (λ (g : Values ℕ). g i) (same j)) in
        rw (ap (weigh v) (fun_ext all)) (le_trans _ _ _ (weighs_z N within f) (weighs_w N within (separate_beats Ps N 16 f)))

    sum_no_more : (N : ℕ) → 16 ≤ N → (f : Values ℕ)
        → weigh w f ≤ℚ weigh v (λ i. total_below (suc k) (λ j. separate_beats Ps N (j + 0) f i))
    sum_no_more N within f =
        let none : (j : ℕ) → j + 0 ≡ j = λ j. omega arith in
        let all : (i : ℕ) → total_below (suc k) (λ j. separate_beats Ps N (j + 0) f i) ≡ total_below (suc k) (λ j. separate_beats Ps N j f i) =
        λ i. below-same (suc k) _ _ (λ j h. ap (λ p. separate_beats Ps N p f i) (none j)) in
        rw (ap (weigh v) (fun_ext all)) (weighs_w N within f)

    suc_sum_weighs : (out : List ℕ)
        → IsLowered (suc k) ((suc k * sum v - sum w) + (suc k * sum v - sum z) + 16 * suc k * (suc k + 16)) w z out
        → (N : ℕ) → 16 ≤ N → (f : Values ℕ) → weigh out f ≤ℚ weigh v (λ i. total_below (suc k) (λ j. times (beat_of T N) j f i))
    suc_sum_weighs out h N within f =
        rw (ap (weigh v) (fun_ext (each_expected k (times (beat_of T N)) f))) at
        (law.reduced k each v w z out few mass long long_w long_z (below_sum 0 w sum_no_more) (below_sum 16 z sum_sixteen_on)
        (is_reduced (suc k) _ w z out h k each v (omega arith)
        (rw (each_over k) (omega (arith, mul-le-mul_left {m = k + 16} {n = suc k + 16} (16 * suc k) (omega arith))))) N within f)

  pub sum_weighs : (m : ℕ) → 0 < m → m ≤ 1_000_000 → (w z : List ℕ) → length w ≡ n → length z ≡ n
      → ((N : ℕ) → 16 ≤ N → (f : Values ℕ) → weigh w f ≤ℚ weigh v (λ i. total_below m (λ j. separate_beats Ps N j f i)))
      → ((N : ℕ) → 16 ≤ N → (f : Values ℕ) → weigh z f ≤ℚ weigh w (separate_beats Ps N 16 f))
      → (out : List ℕ) → IsLowered m ((m * sum v - sum w) + (m * sum v - sum z) + 16 * m * (m + 16)) w z out
      → (N : ℕ) → 16 ≤ N → (f : Values ℕ) → weigh out f ≤ℚ weigh v (λ i. total_below m (λ j. times (beat_of T N) j f i))
  sum_weighs zero some few w z long_w long_z weighs_w weighs_z = absurd (omega arith)
  sum_weighs (suc k) some few w z long_w long_z weighs_w weighs_z = suc_sum_weighs k (omega arith) w z long_w long_z weighs_w weighs_z
