-- The laws of separate beats.
use Rattle.std.proofs.Common.{◌≡◌, ℕ, suc, ◌+◌, ◌*◌, ◌^◌, ◌<◌, ◌≤◌, List, [], ◌∷◌, length, sum, refl, sym, ap, ◌∙◌, arith}
use mathlib.Core.Path.{fun_ext}
use Rattle.sil_fraction.specs.Fraction.{Fraction, ◌+ℚ◌, ◌*ℚ◌, ◌≤ℚ◌, whole, inverse}
use Rattle.sil_fraction.proofs.Laws.{mul_assoc, mul_comm, zero-add, zero-mul, one-mul, mul-inverse, whole-le, le_trans, le_of_same}
use Rattle.sil_fraction.proofs.Sums.{add-zero}
use Rattle.sil_model.specs.Series.{Values, times, series_of, beat_of}
use Rattle.model_laws.specs.Polynomial.{IsLinear}
use Rattle.model_laws.proofs.Series.{series_positive}
use Rattle.model_laws.proofs.Beats.{beat-linear}
use Rattle.lumped_laws.specs.LinearLists.{KeepsConstants}
use Rattle.vector_laws.specs.Vectors.{weigh}
use Rattle.vector_laws.proofs.Weighing.{weigh-le, weigh-constant}
use Rattle.exponential_laws.specs.Exponential.{exponential_of, Commute}
use Rattle.exponential_laws.specs.Laws.{ExponentialLaw}
use Rattle.separate_laws.specs.DigitLaws.{StaysBelow}
use Rattle.separate_laws.specs.Separate.{separate_beats, AreSeparate, IsBelowSeparate, IsReduced, expected_over}
use Rattle.separate_laws.specs.Laws.{SeparateLaw}
use Rattle.separate_laws.proofs.Steps.{Step, scaled, no_beats, beats_after}
use Rattle.separate_laws.proofs.Multiples.{stay, stay-series, series-same, constant-series}
use Rattle.separate_laws.proofs.Together.{separate_beat}
use Rattle.separate_laws.proofs.Lengths.{quotient-most, quotient-least, factor_of, factor-short, factor-long}
use Rattle.separate_laws.proofs.Within.{X-linear, beat_below, near}
use Rattle.separate_laws.proofs.Powers.{powers-near, times-constants, mass-near, series-stay, separate-below}
use Rattle.separate_laws.proofs.Expected.{expected-le}
use Rattle.separate_laws.proofs.Reduced.{reduced_below}

module _ (law : (X Y : Step) → IsLinear X → IsLinear Y → Commute X Y → ExponentialLaw X Y)
    (n : ℕ) (T : Step) (t : IsLinear T) (keeps : KeepsConstants T) (stays : StaysBelow n T) where
  -- where a separate beat is below the series of T of some length, with a factor
  module _ (Ps : List Step) (separate : AreSeparate n T Ps) (N L : ℕ) (late : 16 ≤ N) (longer : N ≤ L) (f : Fraction)
      (short : whole 1 ≤ℚ f *ℚ series_of N) (long : (f *ℚ series_of L) *ℚ whole (2 ^ 46) ≤ℚ whole (2 ^ 46 + 1))
      (one : (g : Values ℕ) (i : ℕ) → i < n → separate_beats Ps N 1 g i ≤ℚ f *ℚ exponential_of T L g i) where
    Z : Step
    Z g = scaled f (exponential_of T L g)

    Z-linear : IsLinear Z
    unfolding Z
    Z-linear = X-linear law T t N L late longer f short long

    Z-stays : StaysBelow n Z
    unfolding Z
    Z-stays = record { same = λ g h e i p. ap (λ s. f *ℚ s) ((series-stay n T stays L).same g h e i p) }

    constant : (b : Fraction) → Z (λ i. b) ≡ (λ i. (f *ℚ series_of L) *ℚ b)
    unfolding Z
    constant b = fun_ext (λ i. ap (λ s. f *ℚ s) (constant-series T b (keeps b) L i) ∙ sym (mul_assoc _ _ _))

    close : (j : ℕ) (g : Values ℕ) (i : ℕ) → whole (2 ^ 46) *ℚ times Z j g i
        ≤ℚ whole (2 ^ 46) *ℚ times (beat_of T N) j g i +ℚ whole j *ℚ (times Z j g i +ℚ times Z (j + 16) g i)
    unfolding Z
    close = powers-near (whole (2 ^ 46)) Z (beat_of T N) (beat-linear T t N) (λ g i. beat_below law T t N L late longer f short long g i)
        (λ g i. near law T t N L late longer f short long g i)

    below : (j : ℕ) (g : Values ℕ) (i : ℕ) → i < n → separate_beats Ps N j g i ≤ℚ times Z j g i
    unfolding Z
    below = separate-below n N Ps separate.linear separate.commute Z Z-linear Z-stays one

    mass : (m : ℕ) → m ≤ 1000000 → (v : List ℕ) → sum v ≤ 2 ^ 48 → (j : ℕ) → j ≤ m + 16
        → weigh v (times Z j (λ i. whole 1)) ≤ℚ whole (sum v + 8 * (m + 16))
    mass m few v full j h =
        le_trans _ _ _ (le_of_same _ _ (ap (weigh v) (times-constants Z (f *ℚ series_of L) constant j) ∙ weigh-constant v _ ∙ mul_comm _ _))
        (le_trans _ _ _ (mass-near (f *ℚ series_of L) long j (sum v) (omega arith) full) (whole-le _ _ (omega arith)))

    weighed : (m : ℕ) (c : ℕ → ℕ) (more : ℕ) (v a : List ℕ) → length v ≡ n → IsBelowSeparate m c Ps more v a → (g : Values ℕ)
        → weigh a g ≤ℚ weigh v (expected_over m c (λ j. times Z (j + more)) g)
    weighed m c more v a size is_below g =
        le_trans _ _ _ (is_below.weighed N late g)
        (weigh-le v _ _ (λ i h. expected-le m c (λ j. separate_beats Ps N (j + more)) (λ j. times Z (j + more)) g i (λ j. below (j + more) g i (omega arith))))

    pub reduced_by : (m : ℕ) (c : ℕ → ℕ) (v a b out : List ℕ) → m ≤ 1000000 → sum v ≤ 2 ^ 48 → length v ≡ n → length a ≡ n → length b ≡ n
        → IsBelowSeparate m c Ps 0 v a → IsBelowSeparate m c Ps 16 v b → IsReduced m c v a b out
        → (g : Values ℕ) → weigh out g ≤ℚ weigh v (expected_over m c (times (beat_of T N)) g)
    reduced_by m c v a b out few full size_v size_a size_b is_a is_b down g =
        reduced_below m c v Z Z-linear (mass m few v full) (beat_of T N) (beat-linear T t N) close a b out down (omega arith)
        (weighed m c 0 v a size_v is_a) (weighed m c 16 v b size_v is_b) g

  undone : (N : ℕ) → inverse (series_of N) *ℚ series_of N ≡ whole 1
  undone N = mul_comm _ _ ∙ mul-inverse (series_of N) (series_positive N)

  -- no steps: T changes nothing below n
  none_one : AreSeparate n T [] → (N : ℕ) (g : Values ℕ) (i : ℕ) → i < n → g i ≤ℚ inverse (series_of N) *ℚ exponential_of T N g i
  unfolding stay
  none_one separate N g i h =
      let same : (f : Values ℕ) (j : ℕ) → j < n → T f j ≡ stay f j =
      λ f j p. sym (sym (zero-add (f j)) ∙ separate.changes f j p ∙ ap (λ s. T f j +ℚ s) (zero-mul (f j)) ∙ add-zero _) in
      le_of_same _ _ (sym (ap (λ s. inverse (series_of N) *ℚ s) (series-same n T stay stays same N g i h ∙ ap (λ (w : Values ℕ). w i) (stay-series N g))
      ∙ sym (mul_assoc _ _ _) ∙ ap (λ s. s *ℚ g i) (undone N) ∙ one-mul _))

  reduced : (Ps : List Step) → AreSeparate n T Ps → (m : ℕ) (c : ℕ → ℕ) (v a b out : List ℕ) → m ≤ 1000000 → sum v ≤ 2 ^ 48
      → length v ≡ n → length a ≡ n → length b ≡ n → IsBelowSeparate m c Ps 0 v a → IsBelowSeparate m c Ps 16 v b → IsReduced m c v a b out
      → (N : ℕ) → 16 ≤ N → (g : Values ℕ) → weigh out g ≤ℚ weigh v (expected_over m c (times (beat_of T N)) g)
  reduced [] separate m c v a b out few full size_v size_a size_b is_a is_b down N late g =
      let long : (inverse (series_of N) *ℚ series_of N) *ℚ whole (2 ^ 46) ≤ℚ whole (2 ^ 46 + 1) =
      le_trans _ _ _ (le_of_same _ _ (ap (λ s. s *ℚ whole (2 ^ 46)) (undone N) ∙ one-mul _)) (whole-le _ _ (omega arith)) in
      reduced_by [] separate N N late (omega arith) (inverse (series_of N)) (le_of_same _ _ (sym (undone N))) long (none_one separate N)
      m c v a b out few full size_v size_a size_b is_a is_b down g
  reduced (P ∷ Ps) separate m c v a b out few full size_v size_a size_b is_a is_b down N late g =
      let k : ℕ = length Ps in
      let L : ℕ = suc k * N in
      let number : length (P ∷ Ps) ≡ suc k = refl in
      let most : length (P ∷ Ps) ≤ 6 = separate.few in
      let longer : N ≤ L = omega arith in
      let short : whole 1 ≤ℚ factor_of N L late longer k *ℚ series_of N =
      le_trans _ _ _ (quotient-least N L late longer k) (le_of_same _ _ (sym (factor-short N L late longer k))) in
      let long : (factor_of N L late longer k *ℚ series_of L) *ℚ whole (2 ^ 46) ≤ℚ whole (2 ^ 46 + 1) =
      le_trans _ _ _ (le_of_same _ _ (ap (λ s. s *ℚ whole (2 ^ 46)) (factor-long N L late longer k))) (quotient-most N L late longer (suc k) (omega arith)) in
      reduced_by (P ∷ Ps) separate N L late longer (factor_of N L late longer k) short long (separate_beat law N n T t (P ∷ Ps) separate k number)
      m c v a b out few full size_v size_a size_b is_a is_b down g

  pub separate_law : (Ps : List Step) → AreSeparate n T Ps → SeparateLaw n T Ps
  separate_law Ps separate = record {
    none = no_beats Ps;
    passes = beats_after Ps separate.linear separate.commute;
    reduced = reduced Ps separate;
  }
