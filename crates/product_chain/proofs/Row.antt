-- One row of the chain, from the steps of its source.
use Rattle.std.proofs.Common.{◌≡◌, ℕ, ◌+◌, ◌-◌, ◌*◌, ◌/◌, ◌<◌, ◌≤◌, inl, inr, List, [], ◌∷◌, length, refl, sym, ap, ◌∙◌, arith}
use Rattle.std.specs.Prelude.{Bool, true, false, cond, ◌&&◌}
use Rattle.std.specs.Prelude.{◌==◌}
use Rattle.std.proofs.Math.Nat.{mul-pos, lt-div-mul-add, div-mul-le_self}
use Rattle.std.proofs.lemmas.Bool.{cases_lt, eqb-true}
use Rattle.std.proofs.lemmas.Nat.{div_below, le-div}
use Rattle.sil_fraction.specs.Fraction.{Fraction, ◌+ℚ◌, ◌-ℚ◌, ◌*ℚ◌, ◌≤ℚ◌, whole, ratio, inverse}
use Rattle.sil_fraction.specs.Sum.{total}
use Rattle.sil_fraction.proofs.Laws.{le_refl, le_trans, mul-le-right, mul_comm, mul_assoc, mul-add, zero-mul, one-mul, add_assoc, add_comm, whole-add, whole-le, le-whole, add-le-cancel_right, sub-add, le_of_same, ratio-le-ratio, whole-ratio, ratio-mul, zero-le}
use Rattle.sil_fraction.proofs.Sums.{add-le-add, add-mul, mul-one, mul-zero, le_from_scaled}
use Rattle.product_chain.specs.declared.step.Step.{Step}
use Rattle.product_chain.specs.Steps.{scale, joined, down_of, up_of}

-- the steps of one source, each times f at its target
abbrev pub steps_flow : List Step → (ℕ → Fraction) → Fraction
steps_flow ss f = total (λ (s : Step). ratio s.num s.den *ℚ f s.target) ss

abbrev down : ℕ → ℕ → ℕ
down n d = n * scale / d

abbrev up : ℕ → ℕ → ℕ
up n d = (n * scale + (d - 1)) / d

module _ (hours beats : ℕ) where
  abbrev pub step_down : Step → ℕ
  step_down s = down_of hours beats s.num s.den

  abbrev pub step_up : Step → ℕ
  step_up s = up_of hours beats s.num s.den

  abbrev pub sum_of : (Step → ℕ) → List Step → ℕ
  sum_of f [] = 0
  sum_of f (s ∷ ss) = f s + sum_of f ss

  -- what stays at the source
  abbrev pub stays : List Step → ℕ
  stays ss = scale - sum_of step_up ss

  -- the row of a source: its steps, and what stays
  abbrev pub row_of : List Step → ℕ → (ℕ → Fraction) → Fraction
  row_of ss i f = total (λ (s : Step). whole (step_down s) *ℚ f s.target) ss +ℚ whole (stays ss) *ℚ f i

  -- a tick from the source i
  abbrev pub step_tick : List Step → ℕ → (ℕ → Fraction) → Fraction
  step_tick ss i f = ratio hours beats *ℚ steps_flow ss f +ℚ (whole 1 -ℚ ratio hours beats *ℚ steps_flow ss (λ j. whole 1)) *ℚ f i

over-add : (a b d : ℕ) → ratio (a + b) d ≡ ratio a d +ℚ ratio b d
over-add a b d = ap (λ x. x *ℚ inverse (whole d)) (whole-add a b) ∙ add-mul (whole a) (whole b) (inverse (whole d))

-- a step that joins adds its flow
pub joined_flow : (ss : List Step) (t : Step) (f : ℕ → Fraction) → steps_flow (joined ss t) f ≡ steps_flow ss f +ℚ ratio t.num t.den *ℚ f t.target
joined_flow [] t f = add_comm _ _
joined_flow (s ∷ ss) t f = go ((s.target == t.target)) ((s.den == t.den)) refl refl (joined_flow ss t f)
  where
    same_sum : (a b x r : Fraction) → (a +ℚ b) *ℚ x +ℚ r ≡ (a *ℚ x +ℚ r) +ℚ b *ℚ x
    same_sum a b x r = rw add-mul (add_assoc (a *ℚ x) (b *ℚ x) r ∙ ap (λ y. a *ℚ x +ℚ y) (add_comm (b *ℚ x) r) ∙ sym (add_assoc (a *ℚ x) r (b *ℚ x)))

    go : (b c : Bool) → (s.target == t.target) ≡ b → (s.den == t.den) ≡ c → steps_flow (joined ss t) f ≡ steps_flow ss f +ℚ ratio t.num t.den *ℚ f t.target
        → steps_flow (cond (b && c) (record s { num = s.num + t.num } ∷ ss) (s ∷ joined ss t)) f ≡ steps_flow (s ∷ ss) f +ℚ ratio t.num t.den *ℚ f t.target
    go true true e d r = rw (← eqb-true s.target t.target e, ← eqb-true s.den t.den d, over-add s.num t.num s.den)
        (same_sum (ratio s.num s.den) (ratio t.num s.den) (f s.target) (steps_flow ss f))
    go true false e d r = ap (λ y. ratio s.num s.den *ℚ f s.target +ℚ y) r ∙ sym (add_assoc _ _ _)
    go false c e d r = ap (λ y. ratio s.num s.den *ℚ f s.target +ℚ y) r ∙ sym (add_assoc _ _ _)

pub joined_length : (ss : List Step) (t : Step) → length (joined ss t) ≤ length ss + 1
joined_length [] t = omega arith
joined_length (s ∷ ss) t =
    elim ((s.target == t.target) && (s.den == t.den)) as (λ b. length (cond b (record s { num = s.num + t.num } ∷ ss) (s ∷ joined ss t))
    ≤ length (s ∷ ss) + 1) [ true ↦ omega arith | false ↦ omega (arith, joined_length ss t) ]

-- roundings of a quotient
module _ (n d : ℕ) (p : 0 < d) where
  pub scaled : ratio n d *ℚ whole scale ≡ ratio (n * scale) (d * 1)
  scaled = rw (whole-ratio scale) (ratio-mul n d scale 1 p (omega arith))

  down_le : whole (down n d) ≤ℚ ratio n d *ℚ whole scale
  down_le = rw (scaled, whole-ratio (down n d)) (ratio-le-ratio (down n d) 1 (n * scale) (d * 1) (omega arith) (omega arith)
      (omega (arith, div-mul-le_self (n * scale) d)))

  le_up : ratio n d *ℚ whole scale ≤ℚ whole (up n d)
  le_up = rw (scaled, whole-ratio (up n d)) (ratio-le-ratio (n * scale) (d * 1) (up n d) 1 (omega arith) (omega arith)
      (omega (arith, lt-div-mul-add {a = n * scale + (d - 1)} {b = d} p, p)))

  up_down : up n d ≤ down n d + 1
  up_down = omega (arith, div_below (n * scale + (d - 1)) d (down n d + 2) p (omega (arith, lt-div-mul-add {a = n * scale} {b = d} p)))

  down_up : down n d ≤ up n d
  down_up = le-div (down n d) (n * scale + (d - 1)) d p (omega (arith, div-mul-le_self (n * scale) d))

-- every step's lower number is above 0
pub data Positive : List Step → Type 0 where
  none : Positive []
  one : {s : Step} {ss : List Step} → 0 < s.den → Positive ss → Positive (s ∷ ss)

module _ (hours beats : ℕ) (some : 0 < beats) where
  abbrev H : Fraction
  H = ratio hours beats

  pub one_scaled : (s : Step) → 0 < s.den → ratio (hours * s.num) (beats * s.den) ≡ H *ℚ ratio s.num s.den
  one_scaled s p = sym (ratio-mul hours beats s.num s.den some p)

  -- the entries are at most the exact ones
  downs_le : (ss : List Step) → Positive ss → (f : ℕ → Fraction) → total (λ (s : Step). whole (step_down hours beats s) *ℚ f s.target) ss
      ≤ℚ (H *ℚ steps_flow ss f) *ℚ whole scale
  downs_le [] none f = zero-le _
  downs_le (s ∷ ss) (one p more) f =
      rw (mul-add, add-mul) (add-le-add _ _ _ _
      (le_trans _ _ _ (mul-le-right _ _ (f s.target) (down_le (hours * s.num) (beats * s.den) (mul-pos some p)))
      (rw (one_scaled s p) (le_of_same _ _ (shuffle H (ratio s.num s.den) (whole scale) (f s.target)))))
      (downs_le ss more f))
    where
      shuffle : (h r m x : Fraction) → ((h *ℚ r) *ℚ m) *ℚ x ≡ (h *ℚ (r *ℚ x)) *ℚ m
      shuffle h r m x = mul_assoc (h *ℚ r) m x ∙ ap (λ y. (h *ℚ r) *ℚ y) (mul_comm m x) ∙ sym (mul_assoc (h *ℚ r) x m) ∙ ap (λ y. y *ℚ m) (mul_assoc h r x)

  ups_ge : (ss : List Step) → Positive ss → (H *ℚ steps_flow ss (λ j. whole 1)) *ℚ whole scale ≤ℚ whole (sum_of hours beats (step_up hours beats) ss)
  ups_ge [] none = rw (mul-zero H, zero-mul) (le_refl _)
  ups_ge (s ∷ ss) (one p more) =
      rw (mul-add, add-mul, whole-add, mul-one (ratio s.num s.den), ← one_scaled s p)
      (add-le-add _ _ _ _ (le_up (hours * s.num) (beats * s.den) (mul-pos some p)) (ups_ge ss more))

  -- what stays is at most what is left
  stays_le : (ss : List Step) → Positive ss → whole (stays hours beats ss) ≤ℚ (whole 1 -ℚ H *ℚ steps_flow ss (λ j. whole 1)) *ℚ whole scale
  stays_le ss q =
      let X : Fraction = H *ℚ steps_flow ss (λ j. whole 1) in
      let ups : ℕ = sum_of hours beats (step_up hours beats) ss in
      elim (cases_lt scale ups) [
        | inl g ↦ let z : scale - ups ≡ 0 = omega arith in rw z (zero-le _)
        | inr g ↦
            let most : X *ℚ whole scale ≤ℚ whole scale = le_trans _ _ _ (ups_ge ss q) (whole-le _ _ g) in
            let slow : X ≤ℚ whole 1 = le_from_scaled scale X (whole 1) (omega arith) (rw (one-mul (whole scale)) most) in
            let all : (whole 1 -ℚ X) *ℚ whole scale +ℚ X *ℚ whole scale ≡ whole scale =
            sym (add-mul _ _ _) ∙ ap (λ y. y *ℚ whole scale) (sub-add (whole 1) X slow) ∙ one-mul (whole scale) in
            let both : whole (scale - ups) +ℚ whole ups ≡ whole scale = let n : scale - ups + ups ≡ scale = omega arith in
            sym (whole-add (scale - ups) ups) ∙ ap whole n in
            add-le-cancel_right _ _ (X *ℚ whole scale) (rw all (rw both at (add-le-add _ _ _ _ (le_refl (whole (scale - ups))) (ups_ge ss q))))
      ]

  pub row_below : (ss : List Step) → Positive ss → (i : ℕ) (f : ℕ → Fraction) → row_of hours beats ss i f ≤ℚ step_tick hours beats ss i f *ℚ whole scale
  row_below ss q i f =
      let g : Fraction = whole 1 -ℚ H *ℚ steps_flow ss (λ j. whole 1) in
      rw add-mul (add-le-add _ _ _ _ (downs_le ss q f)
      (le_trans _ _ _ (mul-le-right _ _ (f i) (stays_le ss q))
      (le_of_same _ _ (mul_assoc g (whole scale) (f i) ∙ ap (λ y. g *ℚ y) (mul_comm (whole scale) (f i)) ∙ sym (mul_assoc g (f i) (whole scale))))))

  ups_downs : (ss : List Step) → Positive ss → sum_of hours beats (step_up hours beats) ss ≤ sum_of hours beats (step_down hours beats) ss + length ss
  ups_downs [] none = omega arith
  ups_downs (s ∷ ss) (one p more) = omega (arith, up_down (hours * s.num) (beats * s.den) (mul-pos some p), ups_downs ss more)

  downs_ups : (ss : List Step) → Positive ss → sum_of hours beats (step_down hours beats) ss ≤ sum_of hours beats (step_up hours beats) ss
  downs_ups [] none = omega arith
  downs_ups (s ∷ ss) (one p more) = omega (arith, down_up (hours * s.num) (beats * s.den) (mul-pos some p), downs_ups ss more)

  -- what a row lacks
  pub row_lacks : (ss : List Step) → Positive ss → scale ≤ sum_of hours beats (step_down hours beats) ss + stays hours beats ss + length ss
  row_lacks ss q = omega (arith, ups_downs ss q)

  pub row_within : (ss : List Step) → Positive ss → H *ℚ steps_flow ss (λ j. whole 1) ≤ℚ whole 1
      → sum_of hours beats (step_down hours beats) ss + stays hours beats ss ≤ scale
  row_within ss q slow =
      let a : total (λ (s : Step). whole (step_down hours beats s) *ℚ whole 1) ss ≤ℚ whole 1 *ℚ whole scale =
      le_trans _ _ _ (downs_le ss q (λ j. whole 1)) (mul-le-right _ _ (whole scale) slow) in
      let b : sum_of hours beats (step_down hours beats) ss ≤ scale = le-whole _ _ (rw (one-mul, sum_whole ss) at a) in
      omega (arith, b, downs_ups ss q)
    where
      sum_whole : (ss : List Step) → total (λ (s : Step). whole (step_down hours beats s) *ℚ whole 1) ss ≡ whole (sum_of hours beats (step_down hours beats) ss)
      sum_whole [] = refl
      sum_whole (s ∷ ss) = rw (whole-add, mul-one (whole (step_down hours beats s)), sum_whole ss) refl
