-- Steps that commute: their iterates, their series and their beats commute, and separate beats come after one another.
use Rattle.std.proofs.Common.{◌≡◌, ℕ, zero, suc, ◌+◌, List, [], ◌∷◌, refl, sym, ap, ◌∙◌, arith}
use Rattle.std.specs.Prelude.{All, AllPairs}
use mathlib.Core.Path.{fun_ext}
use Rattle.sil_fraction.specs.Fraction.{Fraction, ◌+ℚ◌, ◌*ℚ◌, ◌≤ℚ◌, ratio, inverse}
use Rattle.sil_fraction.specs.Sum.{total, total_below}
use Rattle.sil_fraction.proofs.Laws.{mul_comm, front, mul-add, zero-add, le_refl, mul-le-left}
use Rattle.sil_fraction.proofs.Sums.{below-le, below-add, mul-below, add_swap, add-le-add, mul-zero}
use Rattle.sil_model.specs.Series.{Values, times, factorial, series_of, beat_of}
use Rattle.model_laws.specs.Polynomial.{IsLinear}
use Rattle.model_laws.proofs.Operators.{times-linear, times-add, summed}
use Rattle.model_laws.proofs.Beats.{beat-linear}
use Rattle.exponential_laws.specs.Exponential.{exponential_of, both, Commute}
use Rattle.separate_laws.specs.DigitLaws.{StaysBelow}
use Rattle.separate_laws.specs.Separate.{separate_beats}

abbrev pub Step : Type 0
Step = Values ℕ → Values ℕ

-- all values times c
abbrev pub scaled : Fraction → Step
scaled c f i = c *ℚ f i

-- of a list with one element more
module _ {A : Type 0} (x : A) (xs : List A) where
  pub first : (P : A → Type 0) → All P (x ∷ xs) → P x
  first P h = h 0 x (omega arith)

  pub rest : (P : A → Type 0) → All P (x ∷ xs) → All P xs
  rest P h i d g = h (suc i) d (omega arith)

  pub first_pairs : (R : A → A → Type 0) → AllPairs R (x ∷ xs) → All (R x) xs
  first_pairs R h i d g = h 0 (suc i) d (omega arith) (omega arith)

  pub rest_pairs : (R : A → A → Type 0) → AllPairs R (x ∷ xs) → AllPairs R xs
  rest_pairs R h i j d g k = h (suc i) (suc j) d (omega arith) (omega arith)

pub turned : (X Y : Step) → Commute X Y → Commute Y X
turned X Y c = record { either = λ f. sym (c.either f) }

pub commute-times : (Z T : Step) → Commute Z T → (k : ℕ) → Commute Z (times T k)
commute-times Z T c k = record { either = by_number k }
  where
    by_number : (k : ℕ) (f : Values ℕ) → Z (times T k f) ≡ times T k (Z f)
    by_number zero f = refl
    by_number (suc k) f = c.either (times T k f) ∙ ap T (by_number k f)

-- a beat is the series, divided
pub beat-series : (T : Step) (N : ℕ) (f : Values ℕ) → beat_of T N f ≡ (λ i. inverse (series_of N) *ℚ exponential_of T N f i)
unfolding beat_of exponential_of
beat-series T N f = fun_ext (λ i. mul_comm _ _)

-- the series of a linear step is linear
module _ (T : Step) (t : IsLinear T) (n : ℕ) where
  r : (k : ℕ) → IsLinear (times T k)
  r k = times-linear T t k

  series-adds : (f g : Values ℕ) → exponential_of T n (λ i. f i +ℚ g i) ≡ (λ i. exponential_of T n f i +ℚ exponential_of T n g i)
  unfolding exponential_of
  series-adds f g = fun_ext (λ i.
      ap (total_below (suc n)) (fun_ext (λ k. ap (λ (h : Values ℕ). ratio 1 (factorial k) *ℚ h i) ((r k).adds f g) ∙ mul-add _ _ _)) ∙ below-add (suc n) _ _)

  series-scales : (c : Fraction) (f : Values ℕ) → exponential_of T n (λ i. c *ℚ f i) ≡ (λ i. c *ℚ exponential_of T n f i)
  unfolding exponential_of
  series-scales c f = fun_ext (λ i.
      ap (total_below (suc n)) (fun_ext (λ k. ap (λ (h : Values ℕ). ratio 1 (factorial k) *ℚ h i) ((r k).scales c f) ∙ front _ c _)) ∙ sym (mul-below (suc n) c _))

  series-grows : (f g : Values ℕ) → ((i : ℕ) → f i ≤ℚ g i) → (i : ℕ) → exponential_of T n f i ≤ℚ exponential_of T n g i
  unfolding exponential_of
  series-grows f g h i = below-le (suc n) _ _ (λ k _. mul-le-left _ _ _ ((r k).grows f g h i))

  pub series-linear : IsLinear (exponential_of T n)
  series-linear = record { adds = series-adds; scales = series-scales; grows = series-grows }

-- a linear step that commutes with others commutes with their beats
module _ (Z : Step) (z : IsLinear Z) where
  commute-series : (T : Step) → Commute Z T → (n : ℕ) (f : Values ℕ) → Z (exponential_of T n f) ≡ exponential_of T n (Z f)
  unfolding exponential_of
  commute-series T c n f =
      let each : (k : ℕ) → Z (λ i. ratio 1 (factorial k) *ℚ times T k f i) ≡ (λ i. ratio 1 (factorial k) *ℚ times T k (Z f) i) =
      λ k. z.scales (ratio 1 (factorial k)) (times T k f) ∙ ap (scaled (ratio 1 (factorial k))) ((commute-times Z T c k).either f) in
      summed Z z (suc n) (λ k i. ratio 1 (factorial k) *ℚ times T k f i)
      ∙ fun_ext (λ i. ap (total_below (suc n)) (fun_ext (λ k. ap (λ (g : Values ℕ). g i) (each k))))

  pub commute-beat : (T : Step) → Commute Z T → (N : ℕ) → Commute Z (beat_of T N)
  commute-beat T c N = record {
    either = λ f. ap Z (beat-series T N f) ∙ z.scales (inverse (series_of N)) (exponential_of T N f)
        ∙ ap (scaled (inverse (series_of N))) (commute-series T c N f) ∙ sym (beat-series T N (Z f));
  }

  pub commute-separate : (Ps : List Step) → All (Commute Z) Ps → (N m : ℕ) → Commute Z (separate_beats Ps N m)
  commute-separate [] all N m = record { either = λ f. refl }
  commute-separate (P ∷ Ps) all N m = record {
    either = λ f. (commute-times Z (beat_of P N) (commute-beat P (first P Ps (Commute Z) all) N) m).either (separate_beats Ps N m f)
        ∙ ap (times (beat_of P N) m) ((commute-separate Ps (rest P Ps (Commute Z) all) N m).either f);
  }

-- no beats change nothing
pub no_beats : (Ps : List Step) (N : ℕ) (f : Values ℕ) → separate_beats Ps N 0 f ≡ f
no_beats [] N f = refl
no_beats (P ∷ Ps) N f = no_beats Ps N f

-- beats after beats
pub beats_after : (Ps : List Step) → All IsLinear Ps → AllPairs Commute Ps → (N p q : ℕ) (f : Values ℕ)
    → separate_beats Ps N (p + q) f ≡ separate_beats Ps N p (separate_beats Ps N q f)
beats_after [] all pairs N p q f = refl
beats_after (P ∷ Ps) all pairs N p q f =
    let B : Step = beat_of P N in
    let t : IsLinear P = first P Ps IsLinear all in
    let b : IsLinear B = beat-linear P t N in
    let others : All IsLinear Ps = rest P Ps IsLinear all in
    let each : All (Commute B) Ps =
    λ i d h. turned _ B (commute-beat _ (others i d h) P (turned P _ (first_pairs P Ps Commute pairs i d h)) N) in
    let past : Commute (separate_beats Ps N p) B = turned B _ (commute-separate B b Ps each N p) in
    ap (times B (p + q)) (beats_after Ps others (rest_pairs P Ps Commute pairs) N p q f)
    ∙ times-add B p q (separate_beats Ps N p (separate_beats Ps N q f))
    ∙ ap (times B p) (sym ((commute-times (separate_beats Ps N p) B past q).either (separate_beats Ps N q f)))

-- two steps together
module _ (X Y : Step) where
  pub both-linear : IsLinear X → IsLinear Y → IsLinear (both X Y)
  both-linear x y = record {
    adds = λ f g. fun_ext (λ i. cc (ap (λ (h : Values ℕ). h i) (x.adds f g), ap (λ (h : Values ℕ). h i) (y.adds f g), add_swap (X f i) (X g i) (Y f i) (Y g i)));
    scales = λ c f. fun_ext (λ i. cc (ap (λ (h : Values ℕ). h i) (x.scales c f), ap (λ (h : Values ℕ). h i) (y.scales c f), mul-add c (X f i) (Y f i)));
    grows = λ f g h i. add-le-add _ _ _ _ (x.grows f g h i) (y.grows f g h i);
  }

  pub commute-both : (Z : Step) → IsLinear Z → Commute Z X → Commute Z Y → Commute Z (both X Y)
  commute-both Z z c d = record {
    either = λ f. z.adds (X f) (Y f) ∙ fun_ext (λ i. cc (ap (λ (h : Values ℕ). h i) (c.either f), ap (λ (h : Values ℕ). h i) (d.either f)));
  }

  pub both-stay : (n : ℕ) → StaysBelow n X → StaysBelow n Y → StaysBelow n (both X Y)
  both-stay n x y = record { same = λ f g h i p. cc (x.same f g h i p, y.same f g h i p) }

-- several steps added up
abbrev pub sum_of : List Step → Step
sum_of Ps f i = total (λ P. P f i) Ps

none-linear : IsLinear (sum_of [])
none-linear = record { adds = λ f g. fun_ext (λ i. sym (zero-add _)); scales = λ c f. fun_ext (λ i. sym (mul-zero c)); grows = λ f g h i. le_refl _ }

pub sum-linear : (Ps : List Step) → All IsLinear Ps → IsLinear (sum_of Ps)
sum-linear [] all = none-linear
sum-linear (P ∷ Ps) all = both-linear P (sum_of Ps) (first P Ps IsLinear all) (sum-linear Ps (rest P Ps IsLinear all))

pub commute-sum : (Z : Step) → IsLinear Z → (Ps : List Step) → All (Commute Z) Ps → Commute Z (sum_of Ps)
commute-sum Z z [] all = record { either = λ f. summed Z z 0 (λ k i. f i) }
commute-sum Z z (P ∷ Ps) all = commute-both P (sum_of Ps) Z z (first P Ps (Commute Z) all) (commute-sum Z z Ps (rest P Ps (Commute Z) all))

pub sum-stays : (n : ℕ) (Ps : List Step) → All (StaysBelow n) Ps → StaysBelow n (sum_of Ps)
sum-stays n [] all = record { same = λ f g h i p. refl }
sum-stays n (P ∷ Ps) all = both-stay P (sum_of Ps) n (first P Ps (StaysBelow n) all) (sum-stays n Ps (rest P Ps (StaysBelow n) all))
