-- Powers of a step that is little more than a beat: against the beats, at constants, and above separate beats.
use Rattle.std.proofs.Common.{◌≡◌, ℕ, zero, suc, ◌+◌, ◌-◌, ◌*◌, ◌^◌, ◌<◌, ◌≤◌, ◌⊎◌, inl, inr, List, refl, sym, ap, ◌∙◌, arith}
use Rattle.std.proofs.Math.Nat.{mul-le-mul_left, mul-le-mul_right}
use Rattle.std.proofs.lemmas.Bool.{cases_lt}
use Rattle.std.specs.Prelude.{All, AllPairs}
use mathlib.Core.Path.{fun_ext}
use Rattle.sil_fraction.specs.Fraction.{Fraction, ◌+ℚ◌, ◌*ℚ◌, ◌≤ℚ◌, whole, ratio}
use Rattle.sil_fraction.specs.Sum.{total_below}
use Rattle.sil_fraction.proofs.Laws.{add_assoc, mul_assoc, mul_comm, whole-mul, whole-le}
use Rattle.sil_fraction.proofs.Laws.{le_refl, le_trans, le_of_same, mul-le-left, mul-le-right}
use Rattle.sil_fraction.proofs.Sums.{add-le-add, le_from_scaled, le-add_right}
use Rattle.sil_model.specs.Series.{Values, times, factorial}
use Rattle.model_laws.specs.Polynomial.{IsLinear}
use Rattle.model_laws.proofs.Operators.{times-add}
use Rattle.exponential_laws.specs.Exponential.{exponential_of, Commute}
use Rattle.separate_laws.specs.DigitLaws.{StaysBelow}
use Rattle.separate_laws.specs.Separate.{separate_beats}
use Rattle.separate_laws.proofs.Steps.{Step, scaled, no_beats, beats_after}
use Rattle.separate_laws.proofs.Multiples.{whole-more, power}
use Rattle.separate_laws.proofs.Lengths.{power-near}

-- X is at most G and a little of X and of its seventeenth power
module _ (D : Fraction) (X G : Step) (g : IsLinear G) (below : (f : Values ℕ) (i : ℕ) → G f i ≤ℚ X f i)
    (near : (f : Values ℕ) (i : ℕ) → D *ℚ X f i ≤ℚ D *ℚ G f i +ℚ (X f i +ℚ times X 17 f i)) where
  pub powers-near : (m : ℕ) (f : Values ℕ) (i : ℕ)
      → D *ℚ times X m f i ≤ℚ D *ℚ times G m f i +ℚ whole m *ℚ (times X m f i +ℚ times X (m + 16) f i)
  powers-near zero f i = le-add_right _ _
  powers-near (suc m) f i =
      let h : Values ℕ = times X m f in
      let b : Values ℕ = times X (m + 16) f in
      let x : Fraction = X h i in
      let y : Fraction = X b i in
      let e : 17 + m ≡ suc m + 16 = omega arith in
      let u : suc (m + 16) ≡ suc m + 16 = omega arith in
      let same : times X 17 h i ≡ y = ap (λ (v : Values ℕ). v i) (sym (times-add X 17 m f) ∙ ap (λ k. times X k f) (e ∙ sym u)) in
      let inner : (j : ℕ) → D *ℚ h j ≤ℚ D *ℚ times G m f j +ℚ whole m *ℚ (h j +ℚ b j) = powers-near m f in
      let opened : G (λ j. D *ℚ times G m f j +ℚ whole m *ℚ (h j +ℚ b j)) ≡ (λ j. D *ℚ times G (suc m) f j +ℚ whole m *ℚ (G h j +ℚ G b j)) =
      g.adds (scaled D (times G m f)) (λ j. whole m *ℚ (h j +ℚ b j)) ∙ fun_ext (λ j. cc (
        ap (λ (v : Values ℕ). v j) (g.scales D (times G m f)),
        ap (λ (v : Values ℕ). v j) (g.scales (whole m) (λ l. h l +ℚ b l)),
        ap (λ (v : Values ℕ). v j) (g.adds h b),
      )) in
      let outer : D *ℚ G h i ≤ℚ D *ℚ times G (suc m) f i +ℚ whole m *ℚ (x +ℚ y) =
      le_trans _ _ _ (le_of_same _ _ (sym (ap (λ (v : Values ℕ). v i) (g.scales D h))))
      (le_trans _ _ _ (g.grows _ _ inner i)
      (le_trans _ _ _ (le_of_same _ _ (ap (λ (v : Values ℕ). v i) opened))
      (add-le-add _ _ _ _ (le_refl _) (mul-le-left (whole m) _ _ (add-le-add _ _ _ _ (below h i) (below b i)))))) in
      let first : D *ℚ x ≤ℚ D *ℚ G h i +ℚ (x +ℚ y) = le_trans _ _ _ (near h i) (le_of_same _ _ (ap (λ s. D *ℚ G h i +ℚ (x +ℚ s)) same)) in
      let more : suc m ≡ m + 1 = omega arith in
      rw (← u, more)
      (le_trans _ _ _ first
      (le_trans _ _ _ (add-le-add _ _ _ _ outer (le_refl (x +ℚ y)))
      (le_of_same _ _ (add_assoc _ _ _ ∙ ap (λ s. D *ℚ times G (suc m) f i +ℚ s) (sym (whole-more m (x +ℚ y)))))))

mass_numbers : (j r s : ℕ) → r + j ≡ 2 ^ 46 → 2 * j ≤ 2 ^ 46 → s ≤ 2 ^ 48 → 2 ^ 46 * s ≤ (s + 8 * j) * r
mass_numbers j r s e few small =
    let half : 2 ^ 46 ≤ 2 * r = omega arith in
    let all : s * (r + j) ≡ s * 2 ^ 46 = ap (λ x. s * x) e in
    omega (arith, all, mul-le-mul_left j half, mul-le-mul_right j small)

-- X gives a constant a factor
module _ (X : Step) (c : Fraction) (constant : (b : Fraction) → X (λ i. b) ≡ (λ i. c *ℚ b)) where
  pub times-constants : (j : ℕ) → times X j (λ i. whole 1) ≡ (λ i. power c j)
  times-constants zero = refl
  times-constants (suc j) = ap X (times-constants j) ∙ constant (power c j)

-- a factor that comes to 8 more each time, of at most 2^48
pub mass-near : (c : Fraction) → c *ℚ whole (2 ^ 46) ≤ℚ whole (2 ^ 46 + 1) → (j s : ℕ) → 2 * j ≤ 2 ^ 46 → s ≤ 2 ^ 48
    → power c j *ℚ whole s ≤ℚ whole (s + 8 * j)
mass-near c near j s few small =
    let r : ℕ = 2 ^ 46 - j in
    let p : Fraction = power c j in
    let e : r + j ≡ 2 ^ 46 = omega arith in
    let h : p *ℚ whole r ≤ℚ whole (2 ^ 46) = power-near c (2 ^ 46) (omega arith) near j r e in
    le_from_scaled r _ _ (omega arith)
    (le_trans _ _ _ (le_of_same _ _ (mul_assoc _ _ _ ∙ ap (λ y. p *ℚ y) (mul_comm _ _) ∙ sym (mul_assoc _ _ _)))
    (le_trans _ _ _ (mul-le-right _ _ (whole s) h)
    (le_trans _ _ _ (le_of_same _ _ (sym (whole-mul (2 ^ 46) s)))
    (le_trans _ _ _ (whole-le _ _ (mass_numbers j r s e few small)) (le_of_same _ _ (whole-mul (s + 8 * j) r))))))

-- a step that stays below n: its powers, its series, and that it grows there
module _ (n : ℕ) (T : Step) (stays : StaysBelow n T) where
  times-stay : (k : ℕ) (f g : Values ℕ) → ((i : ℕ) → i < n → f i ≡ g i) → (i : ℕ) → i < n → times T k f i ≡ times T k g i
  times-stay zero f g h i p = h i p
  times-stay (suc k) f g h i p = stays.same (times T k f) (times T k g) (times-stay k f g h) i p

  pub series-stay : (L : ℕ) → StaysBelow n (exponential_of T L)
  unfolding exponential_of
  series-stay L = record {
    same = λ f g h i p. ap (total_below (suc L)) (fun_ext (λ k. ap (λ s. ratio 1 (factorial k) *ℚ s) (times-stay k f g h i p)));
  }

  chosen : (i : ℕ) → (i < n) ⊎ (n ≤ i) → Fraction → Fraction
  chosen i (inl h) x = x
  chosen i (inr h) x = whole 0

  chosen-le : (i : ℕ) (s : (i < n) ⊎ (n ≤ i)) (x y : Fraction) → (i < n → x ≤ℚ y) → chosen i s x ≤ℚ chosen i s y
  unfolding chosen
  chosen-le i (inl h) x y k = k h
  chosen-le i (inr h) x y k = le_refl _

  chosen-same : (i : ℕ) (s : (i < n) ⊎ (n ≤ i)) (x : Fraction) → i < n → x ≡ chosen i s x
  unfolding chosen
  chosen-same i (inl h) x p = refl
  chosen-same i (inr h) x p = absurd (omega arith)

  pub grows-below : IsLinear T → (f g : Values ℕ) → ((i : ℕ) → i < n → f i ≤ℚ g i) → (i : ℕ) → i < n → T f i ≤ℚ T g i
  grows-below t f g h i p =
      let cut : Values ℕ → Values ℕ = λ v j. chosen j (cases_lt j n) (v j) in
      let same : (v : Values ℕ) → T v i ≡ T (cut v) i = λ v. stays.same v (cut v) (λ j q. chosen-same j (cases_lt j n) (v j) q) i p in
      le_trans _ _ _ (le_of_same _ _ (same f))
      (le_trans _ _ _ (t.grows (cut f) (cut g) (λ j. chosen-le j (cases_lt j n) (f j) (g j) (h j)) i) (le_of_same _ _ (sym (same g))))

-- beats of separate steps, of which one is below X
module _ (n N : ℕ) (Ps : List Step) (linear : All IsLinear Ps) (commute : AllPairs Commute Ps) (X : Step) (x : IsLinear X) (stays : StaysBelow n X)
    (one : (f : Values ℕ) (i : ℕ) → i < n → separate_beats Ps N 1 f i ≤ℚ X f i) where
  pub separate-below : (j : ℕ) (f : Values ℕ) (i : ℕ) → i < n → separate_beats Ps N j f i ≤ℚ times X j f i
  separate-below zero f i h = le_of_same _ _ (ap (λ (g : Values ℕ). g i) (no_beats Ps N f))
  separate-below (suc j) f i h =
      let e : suc j ≡ 1 + j = omega arith in
      let before : Values ℕ = separate_beats Ps N j f in
      let same : separate_beats Ps N (suc j) f ≡ separate_beats Ps N 1 before =
      ap (λ k. separate_beats Ps N k f) e ∙ beats_after Ps linear commute N 1 j f in
      le_trans _ _ _ (le_of_same _ _ (ap (λ (g : Values ℕ). g i) same))
      (le_trans _ _ _ (one before i h) (grows-below n X stays x before (times X j f) (λ k p. separate-below j f k p) i h))
