-- One separate beat is below the series of all steps together.
use Rattle.std.proofs.Common.{◌≡◌, ℕ, suc, ◌+◌, ◌*◌, ◌<◌, List, [], ◌∷◌, length, refl, sym, ap, ◌∙◌, arith}
use Rattle.std.specs.Prelude.{All, AllPairs}
use mathlib.Core.Path.{fun_ext}
use Rattle.sil_fraction.specs.Fraction.{Fraction, ◌+ℚ◌, ◌*ℚ◌, ◌≤ℚ◌, whole, ratio, inverse}
use Rattle.sil_fraction.proofs.Laws.{add_comm, add_assoc, mul_assoc, one-mul, le_trans, le_of_same, mul-le-left}
use Rattle.sil_fraction.proofs.Sums.{below-first, le-add_right, inverse-one}
use Rattle.sil_model.specs.Series.{Values, times, factorial, series_of}
use Rattle.model_laws.specs.Polynomial.{IsLinear}
use Rattle.exponential_laws.specs.Exponential.{exponential_of, both, Commute}
use Rattle.exponential_laws.specs.Laws.{ExponentialLaw}
use Rattle.separate_laws.specs.Separate.{separate_beats, AreSeparate}
use Rattle.separate_laws.proofs.Steps.{Step, scaled, first, rest, first_pairs, rest_pairs, beat-series, series-linear, sum_of, sum-linear, commute-sum, sum-stays}
use Rattle.separate_laws.proofs.Multiples.{power, stay, stay-linear, multiple, scaled-linear, multiple-series, stay-series, times-factor, series-same, add-cancel, whole-more}

module _ (law : (X Y : Step) → IsLinear X → IsLinear Y → Commute X Y → ExponentialLaw X Y) (N : ℕ) where
  -- a series is at least its first term
  start : (L : ℕ) (T : Step) (f : Values ℕ) (i : ℕ) → f i ≤ℚ exponential_of T L f i
  unfolding exponential_of factorial
  start L T f i =
      le_trans _ _ _ (le_of_same _ _ (sym (ap (λ s. (whole 1 *ℚ s) *ℚ f i) inverse-one ∙ ap (λ s. s *ℚ f i) (one-mul _) ∙ one-mul _)))
      (le_trans _ _ _ (le-add_right _ _) (le_of_same _ _ (sym (below-first L (λ k. ratio 1 (factorial k) *ℚ times T k f i)))))

  -- the series of steps that commute, one after another, are below the series of their sum
  pub product : (Ps : List Step) → All IsLinear Ps → AllPairs Commute Ps → (f : Values ℕ) (i : ℕ)
      → separate_beats Ps N 1 f i ≤ℚ power (inverse (series_of N)) (length Ps) *ℚ exponential_of (sum_of Ps) (length Ps * N) f i
  product [] all pairs f i = le_trans _ _ _ (start (0 * N) (sum_of []) f i) (le_of_same _ _ (sym (one-mul _)))
  product (P ∷ Ps) all pairs f i =
      let p : IsLinear P = first P Ps IsLinear all in
      let others : All IsLinear Ps = rest P Ps IsLinear all in
      let k : ℕ = length Ps in
      let c : Fraction = power (inverse (series_of N)) k in
      let S : Step = sum_of Ps in
      let s : IsLinear S = sum-linear Ps others in
      let E : Step = exponential_of P N in
      let e : IsLinear E = series-linear P p N in
      let l : length (P ∷ Ps) ≡ suc k = refl in
      let m : suc k * N ≡ N + k * N = omega arith in
      let before : E (separate_beats Ps N 1 f) i ≤ℚ E (scaled c (exponential_of S (k * N) f)) i =
      e.grows _ _ (λ j. product Ps others (rest_pairs P Ps Commute pairs) f j) i in
      let together : E (exponential_of S (k * N) f) i ≤ℚ exponential_of (both P S) (N + k * N) f i =
      (law P S p s (commute-sum P p Ps (first_pairs P Ps Commute pairs))).below N (k * N) f i in
      let scales : E (scaled c (exponential_of S (k * N) f)) i ≡ c *ℚ E (exponential_of S (k * N) f) i = ap (λ (h : Values ℕ). h i) (e.scales c _) in
      let one : E (separate_beats Ps N 1 f) i ≤ℚ c *ℚ exponential_of (both P S) (N + k * N) f i =
      le_trans _ _ _ before (le_trans _ _ _ (le_of_same _ _ scales) (mul-le-left c _ _ together)) in
      rw (l, m)
      (le_trans _ _ _ (le_of_same _ _ (ap (λ (h : Values ℕ). h i) (beat-series P N (separate_beats Ps N 1 f))))
      (le_trans _ _ _ (mul-le-left (inverse (series_of N)) _ _ one) (le_of_same _ _ (sym (mul_assoc _ _ _)))))

  -- what the steps change is what T changes
  module _ (n : ℕ) (T : Step) (t : IsLinear T) (Ps : List Step) (separate : AreSeparate n T Ps) (k : ℕ) (number : length Ps ≡ suc k) where
    agree : (f : Values ℕ) (i : ℕ) → i < n → sum_of Ps f i ≡ both (multiple k stay) T f i
    unfolding stay
    agree f i h =
        let e : suc k ≡ k + 1 = omega arith in
        let apart : whole (suc k) *ℚ f i ≡ whole k *ℚ f i +ℚ f i =
        ap (λ j. whole j *ℚ f i) e ∙ whole-more k (f i) in
        add-cancel _ _ (f i)
        (separate.changes f i h ∙ ap (λ j. T f i +ℚ whole j *ℚ f i) number ∙ ap (λ s. T f i +ℚ s) apart ∙ sym (add_assoc _ _ _) ∙ ap (λ s. s +ℚ f i) (add_comm _ _))

    commutes : Commute (multiple k stay) T
    unfolding stay
    commutes = record { either = λ f. sym (t.scales (whole k) f) }

    pub separate_beat : (f : Values ℕ) (i : ℕ) → i < n → separate_beats Ps N 1 f i
        ≤ℚ (power (inverse (series_of N)) (suc k) *ℚ power (series_of (suc k * N)) k) *ℚ exponential_of T (suc k * N) f i
    separate_beat f i h =
        let L : ℕ = suc k * N in
        let c : Fraction = power (inverse (series_of N)) (suc k) in
        let Z : Step = multiple k stay in
        let g : Values ℕ = exponential_of T L f in
        let z : IsLinear Z = scaled-linear stay stay-linear (whole k) in
        let split : exponential_of (both Z T) L f i ≤ℚ exponential_of Z L g i = (law Z T z t commutes).above L f i in
        let often : exponential_of Z L g i ≤ℚ power (series_of L) k *ℚ g i =
        le_trans _ _ _ (multiple-series law stay stay-linear k L g i)
        (le_of_same _ _ (ap (λ (X : Step). times X k g i) (fun_ext (λ h. stay-series L h)) ∙ times-factor (series_of L) k g i)) in
        let all : separate_beats Ps N 1 f i ≤ℚ c *ℚ exponential_of (sum_of Ps) L f i = rw number at (product Ps separate.linear separate.commute f i) in
        let same : exponential_of (sum_of Ps) L f i ≡ exponential_of (both Z T) L f i =
        series-same n (sum_of Ps) (both Z T) (sum-stays n Ps separate.stay) agree L f i h in
        le_trans _ _ _ all (le_trans _ _ _ (mul-le-left c _ _ (le_trans _ _ _ (le_of_same _ _ same) (le_trans _ _ _ split often))) (le_of_same _ _ (sym (mul_assoc _ _ _))))
